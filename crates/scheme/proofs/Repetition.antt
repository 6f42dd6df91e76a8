-- The definitions are met: for k = 1, every node holding the one symbol is a scheme at the least price.
use mathlib.Core.Path.{◌≡◌, refl, sym, ap, ◌∙◌, fun_ext}
use mathlib.Core.Logic.{inl}
use mathlib.Core.Bool.{true}
use mathlib.Core.List.{List, [], ◌∷◌}
use Prim.Native.Nat.{ℕ, ◌+◌, ◌-◌, ◌*◌, ◌≤◌, Fin, zero-le, suc-le-suc}
use native.Mathlib.Decide.{ℕ_discrete}
use native.Mathlib.Nat.{div_self}
use native.Mathlib.Omega.{arith}
use lib.ListN.{length}
use borrow.Author.Tests.{eq-eqb}
use Rattle.lists.specs.Counting.{count_from}
use Rattle.lists.specs.Numbers.{all_below, is_in}
use Rattle.lists.proofs.Count.{count_all}
use Rattle.lists.proofs.Numbers.{is_in_below}
use Rattle.scheme.specs.Messages.{Message}
use Rattle.scheme.specs.Schemes.{Scheme}
use Rattle.scheme.specs.Costs.{floor, Tight}
use Rattle.scheme.proofs.Tightness.{tight}

-- the one symbol number
first : Fin 1
first = (0, suc-le-suc zero-le)

-- there is no other
only : (i : Fin 1) → i ≡ first
unfolding first
only i = native.Mathlib.Fin.val_path (omega arith)

-- every node holds the symbol
pub repetition : (n : ℕ) → Scheme 1 n ℕ (λ j. ℕ)
unfolding is_in
repetition n = record {
  holds = λ m j. m first;
  same = λ j. ℕ_discrete;
  fixes = λ m u js size below different h. fun_ext (λ i. ap m (only i) ∙ go m u js size below h ∙ ap u (sym (only i)));
}
  where
    go : (m u : Message ℕ 1) (js : List ℕ) → length js ≡ 1 → all_below n js ≡ true → ((j : Fin n) → is_in j.0 js ≡ true → m first ≡ u first) → m first ≡ u first
    go m u [] size b h = absurd (omega arith)
    go m u (j ∷ js) size b h = let i : is_in j (j ∷ js) ≡ true = rw (eq-eqb j j refl) in h (j, is_in_below n j (j ∷ js) b i) i

-- 1 · n / n is 1
one_each : (n : ℕ) → 1 ≤ n → 1 ≡ floor (1 * (n - 1 + 1)) n
one_each n l = let whole : 1 * (n - 1 + 1) ≡ n = omega arith in rw whole (sym (div_self l))

-- each change alters all n nodes, each node depends on the one symbol
pub repetition_tight : (n : ℕ) → 1 ≤ n → Tight (repetition n)
unfolding repetition count_from
repetition_tight n l =
    tight (repetition n) 0 1 (λ e. omega arith) (omega arith) l (λ r j. true)
    (λ r m u c j. (λ t e. c.there (ap m (only r) ∙ e ∙ ap u (sym (only r))), λ a. refl))
    (λ r. count_all n 0 (λ j. true) (λ j i h. refl) ∙ omega arith)
    (λ j. inl (one_each n l))
