-- A search through all lists where every list that passes must be a given one.
use mathlib.Core.Path.{◌≡◌, sym, ap, ◌∙◌}
use mathlib.Core.Bool.{Bool, true, false, true≢false}
use mathlib.Core.List.{List}
use Prim.Native.Nat.{ℕ}
use lib.ListN.{length}
use Rattle.lists.specs.Numbers.{all_below}
use Rattle.lists.specs.AllLists.{any_list, first_list}
use Rattle.lists.proofs.AllLists.{Passes, any_list_lem, first_list_lem}
use Rattle.lists.proofs.Cases.{by_test}

-- whether some list passes is whether that one does, and then it is the one that is found
pub only_one : (q n : ℕ) (p : List ℕ → Bool) (l : List ℕ) → length l ≡ n → all_below q l ≡ true → ((r : List ℕ) → Passes q n p r → r ≡ l) → (any_list q n p ≡ p l) × (p l ≡ true → first_list q n p ≡ l)
only_one q n p l long below only = (by_test (any_list q n p) some none, λ t. only (first_list q n p) (first_list_lem q n p (any_list_lem q n p l (own t))))
  where
    own : p l ≡ true → Passes q n p l
    own t = record { long = long; below = below; passes = t }

    some : any_list q n p ≡ true → any_list q n p ≡ p l
    some t = let f = first_list_lem q n p t in t ∙ sym (sym (ap p (only (first_list q n p) f)) ∙ f.passes)

    none : any_list q n p ≡ false → any_list q n p ≡ p l
    none t = by_test (p l) (λ e. absurd (true≢false (sym (any_list_lem q n p l (own e)) ∙ t))) (λ e. t ∙ sym e)
