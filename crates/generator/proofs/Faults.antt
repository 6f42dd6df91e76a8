-- The first of the numbers 4 and 5 whose condition holds turns a header away.
use Rattle.std.specs.Prelude.{Ok, Err}
use mathlib.Core.Path.{◌≡◌}
use mathlib.Core.Bool.{true, false, ◌||◌}
use Prim.Native.Nat.{◌≤◌, ◌<◌}
use native.Mathlib.Omega.{arith}
use borrow.Author.Tests.{ltb-false, eqb-false}
use lib.Dec.{eqb, ltb}
use Rattle.std.proofs.lemmas.Bool.{or_parts}
use Rattle.generator.specs.declared.Header.{Header}
use Rattle.generator.specs.Records.{size_bad, root_bad, header_fault, judged}

module _ (h : Header) where
  pub meets_four : size_bad h ≡ true → Err 4 ≡ judged (header_fault h) h
  unfolding judged header_fault
  meets_four four = rw four

  pub meets_five : size_bad h ≡ false → root_bad h ≡ true → Err 5 ≡ judged (header_fault h) h
  unfolding judged header_fault
  meets_five four five = rw (four, five)

  pub meets_none : size_bad h ≡ false → root_bad h ≡ false → Ok h ≡ judged (header_fault h) h
  unfolding judged header_fault
  meets_none four five = rw (four, five)

  pub no_fault : size_bad h ≡ false → root_bad h ≡ false → header_fault h ≡ 0
  unfolding header_fault
  no_fault four five = rw (four, five)

  -- the sizes that number 4 passes
  pub sizes : size_bad h ≡ false → (2 ≤ h.n) × (h.n ≤ 255) × (0 < h.k) × (h.k ≤ h.n)
  unfolding size_bad
  sizes e =
      let a : (ltb 255 h.n || (eqb h.k 0 || ltb h.n h.k)) ≡ false = (or_parts (ltb h.n 2) _ e).1 in
      let b : (eqb h.k 0 || ltb h.n h.k) ≡ false = (or_parts (ltb 255 h.n) _ a).1 in
      let some : h.k ≡ 0 → ⊥ = eqb-false h.k 0 (or_parts _ (ltb h.n h.k) b).0 in (
        ltb-false h.n 2 (or_parts _ (ltb 255 h.n || (eqb h.k 0 || ltb h.n h.k)) e).0,
        ltb-false 255 h.n (or_parts _ (eqb h.k 0 || ltb h.n h.k) a).0,
        omega arith,
        ltb-false h.n h.k (or_parts (eqb h.k 0) _ b).1,
      )
