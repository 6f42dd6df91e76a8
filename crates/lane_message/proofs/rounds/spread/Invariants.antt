-- `spread` meets its contract. The loop's invariant: the coefficients below j are there, and j is a multiple of g.
use mathlib.Core.Path.{◌≡◌}
use mathlib.Core.List.{List}
use Prim.Native.Nat.{ℕ, ◌-◌, ◌*◌, ◌/◌, ◌%◌}
use lib.Dec.{eqb}
use lib.ListN.{get_or}
use Rattle.lists.specs.Choice.{pick}
use Rattle.lists.proofs.Fill.{Filled}
use Rattle.lane_message.proofs.rounds.spread.Given as goal

abbrev pub coefficient : ℕ → List ℕ → ℕ → ℕ
coefficient g q i = pick (eqb (i % g) 0) (get_or q (i / g) 0) 0

pub record Spread (g l j : ℕ) (q out : List ℕ) : Type 0 where
  pub turns : ℕ
  pub place : j ≡ turns * g
  pub filled : Filled 256 l (coefficient g q) j out

abbrev pub invariant-loop-j : goal.invariant-loop-j
invariant-loop-j l = Spread l.g l.l l.j l.q l.out

abbrev pub decreases-loop-j : goal.decreases-loop-j
decreases-loop-j l = l.l - l.j
