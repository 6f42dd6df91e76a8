-- Update's number: that of what it is given, else that of its lane.
use mathlib.Core.Path.{◌≡◌, sym}
use mathlib.Core.List.{List}
use Prim.Native.Nat.{ℕ}
use Rattle.layout.specs.Layout.{lane_of, share_layout}
use Rattle.layout.specs.Width.{symbols_of}
use Rattle.generator.specs.declared.Header.{Header}
use Rattle.generator.specs.Records.{width}
use Rattle.refusals.specs.Faults.{stale_fault}
use Rattle.update.specs.Promise.{input_fault, update_fault}
use Rattle.refusals.proofs.Order.{first_given}

module _ (h : Header) (l r t old new : ℕ) (shares : List ℕ) where
  -- what is given meets a number
  pub input_met : (g : ℕ) → g ≡ input_fault share_layout h l r t old new shares → (g ≡ 0 → ⊥) → update_fault share_layout h l r t old new shares ≡ g
  unfolding update_fault
  input_met g e some = rw (← e) (first_given g _ some)

  -- it meets none, so the lane's counts
  pub lane_met : (g : ℕ) → input_fault share_layout h l r t old new shares ≡ 0 → g ≡ stale_fault h (lane_of share_layout h.n l t (symbols_of (width h) shares)) r old → update_fault share_layout h l r t old new shares ≡ g
  unfolding update_fault
  lane_met g none e = rw none (sym e)
