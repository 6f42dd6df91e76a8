-- A discrepancy is the sum of the products of parts of two arrays.
use mathlib.Core.Path.{◌≡◌, refl, sym, ap, ap₂, ◌∙◌}
use mathlib.Core.Bool.{true}
use mathlib.Core.List.{List, [], ◌∷◌}
use Prim.Native.Nat.{ℕ, suc, ◌+◌, ◌-◌, ◌≤◌}
use native.Mathlib.Nat.{mod-eq_of_lt}
use native.Mathlib.Omega.{arith}
use lib.ListN.{length, get_or, take, drop, length-take, length-drop}
use lib.Seq.{drop-cons}
use Rattle.lists.specs.Numbers.{all_below}
use Rattle.lists.proofs.Numbers.{below_cons, below_take, below_drop}
use Rattle.lists.proofs.Rows.{part_rest}
use Rattle.lists.proofs.All.{map_take}
use Rattle.field.specs.Fields.{is_field, size_of, add, mul}
use Rattle.field.specs.Symbols.{Symbol}
use Rattle.field.specs.Inner.Sums.{dot}
use Rattle.field.proofs.FieldOf.{size_pos}
use Rattle.field.proofs.Symbols.{residue, symbols, numbers_symbols, get_or_numbers}
use Rattle.nearest_word.proofs.Recurrence.{discrepancy}
use Rattle.decode.specs.Inner.Locating.{Below, partial}
use Rattle.decode.proofs.Arrays.{symbols_all}
use Rattle.decode.proofs.Bridge.{F, term, term_number, Holds, partial_take}

module _ (p : ℕ) (v : is_field p ≡ true) (s : List ℕ) (below_s : Below (size_of p) s) where
  -- numbers as symbols
  abbrev pub as_symbols : List ℕ → List (Symbol (size_of p))
  as_symbols ys = symbols (size_of p) (size_pos p v) ys

  pub dot_discrepancy : (ys : List ℕ) (e : ℕ) → all_below (size_of p) ys ≡ true → length ys ≤ length (drop e s) → dot p ys (drop e s) ≡ (discrepancy (F p v) (as_symbols ys) (term p v s) e).0
  unfolding dot
  dot_discrepancy [] e b h = refl
  dot_discrepancy (y ∷ ys) e b h =
      let parts = below_cons (size_of p) y ys b in
      ap (dot p (y ∷ ys)) (drop-cons s e 0 (omega (arith, length-drop e s, h)))
      ∙ ap₂ (add p) (ap₂ (mul p) (sym (mod-eq_of_lt parts.0)) (sym (term_number p v s below_s e)))
      (dot_discrepancy ys (suc e) parts.1 (omega (arith, length-drop e s, length-drop (suc e) s, h)))

  module _ (w : List ℕ) (below_w : Below (size_of p) w) (e m : ℕ) (fits : e + m ≤ 255) (long : length s ≡ 255) where
    all_w : all_below (size_of p) w ≡ true
    all_w = symbols_all (size_of p) w below_w

    -- the sequence from place e on, as it is lent
    rest_is : take (255 - e) (drop e s) ≡ drop e s
    rest_is = ap (λ (n : ℕ). take (n - e) (drop e s)) (sym long) ∙ part_rest e s

    few : length (take m w) ≤ length (drop e s)
    few = simp length-take (omega (arith, length-drop e s, long, fits))

    holds : Holds p v w (as_symbols w)
    holds x = ap (λ (l : List ℕ). get_or l x 0) (sym (numbers_symbols (size_of p) (size_pos p v) w all_w)) ∙ get_or_numbers (size_of p) (size_pos p v) (as_symbols w) x

    -- the parts are symbols, and there is one of the sequence for each coefficient
    pub parts_ready : (all_below (size_of p) (take m w) ≡ true) × (all_below (size_of p) (take (255 - e) (drop e s)) ≡ true) × (length (take m w) ≤ length (take (255 - e) (drop e s)))
    parts_ready = rw rest_is (below_take (size_of p) m w all_w, below_drop (size_of p) e s (symbols_all (size_of p) s below_s), few)

    pub parts_sum : dot p (take m w) (take (255 - e) (drop e s)) ≡ partial p w s e m
    parts_sum =
        ap (dot p (take m w)) rest_is
        ∙ dot_discrepancy (take m w) e (below_take (size_of p) m w all_w) few
        ∙ ap (λ W. (discrepancy (F p v) W (term p v s) e).0) (map_take (residue (size_of p) (size_pos p v)) m w)
        ∙ sym (partial_take p v w s (as_symbols w) holds below_s e m)
