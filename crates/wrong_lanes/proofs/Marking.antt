-- Marks of lanes that are no words.
use mathlib.Core.Path.{◌≡◌, refl, sym, ap, ◌∙◌}
use mathlib.Core.Bool.{Bool, true, false, ◌&&◌, not, cond}
use mathlib.Core.List.{List}
use Prim.Native.Nat.{ℕ, zero, suc, ◌+◌, ◌-◌, ◌*◌, ◌≤◌, ◌<◌}
use native.Mathlib.Nat.{zero-add, zero-mul}
use native.Mathlib.Numerals.{add-one}
use native.Mathlib.Omega.{arith}
use borrow.Author.Tests.{ltb-true, ltb-false}
use lib.Dec.{eqb, ltb}
use lib.ListN.{length, get_or, take, drop}
use Rattle.std.specs.Prelude.{Option, Some, None, MatchOption}
use Rattle.std.specs.List.{position, position_or_len}
use Rattle.std.proofs.lemmas.List.Sums.{position_or_len_is}
use Rattle.lists.specs.Choice.{pick}
use Rattle.lists.specs.Padded.{zeros}
use Rattle.lists.specs.Search.{first_false}
use Rattle.lists.proofs.Fill.{from_zeros}
use Rattle.lists.proofs.Parts.{from_at}
use Rattle.lists.proofs.Rows.{length_from, get_or_from}
use Rattle.lists.proofs.Cases.{by_test}
use Rattle.lists.proofs.Search.{search_ext, search_high, search_passes, search_fails}
use Rattle.layout.specs.Layout.{Arrangement, lane_after_lane, lane_of}
use Rattle.generator.specs.declared.Header.{Header}
use Rattle.generator.specs.Codewords.{check_from, checks_from, is_word}
use Rattle.tiles.proofs.Parts.{from_part}
use Rattle.blocks.specs.Blocks.{first_wrong}
use Rattle.blocks.proofs.Words.{wrong_most}
use Rattle.block_products.specs.Inner.Marks.{all_zero}
use Rattle.block_products.proofs.Lanes.{lane_is}
use Rattle.wrong_lanes.specs.Inner.Marks.{word_marks}

-- a part of zeros
pub zeros_part : (l t c : ℕ) → t + c ≤ l → take (t + c - t) (drop t (zeros l)) ≡ zeros c
zeros_part l t c fits =
    let none : ℕ → ℕ = λ x. 0 in
    ap (λ (x : List ℕ). take (t + c - t) (drop t x)) (sym (from_zeros none 0 l (λ x a b. refl)))
    ∙ sym (from_part none l t c fits)
    ∙ from_zeros none t c (λ x a b. refl)

pub zeros_prefix : (l c : ℕ) → c ≤ l → take c (zeros l) ≡ zeros c
zeros_prefix l c fits = let all : c ≡ 0 + c - 0 = omega arith in ap (λ (x : ℕ). take x (zeros l)) all ∙ zeros_part l 0 c (omega arith)

-- the mark of a test
abbrev mark : Bool → ℕ
mark b = pick b 0 1

-- the check sums from 1 on
pub sums_checks : (m : ℕ) (h : Header) (ws : List ℕ) → all_zero m (λ i. check_from h (i + 1) 0 ws) ≡ checks_from m h ws
unfolding all_zero checks_from
sums_checks zero h ws = refl
sums_checks (suc m) h ws = rw add-one (ap (λ (b : Bool). eqb (check_from h (suc m) 0 ws) 0 && b) (sums_checks m h ws))

module _ (y : Arrangement) (h : Header) (l : ℕ) (s : List ℕ) where
  pub length_marks : length (word_marks y h l s) ≡ l
  unfolding word_marks
  length_marks = length_from (λ t. mark (is_word h (lane_of y h.n l t s))) 0 l

  -- a lane that is marked 0 is a word
  pub unmarked_word : (t : ℕ) → t < l → get_or (word_marks y h l s) t 0 ≡ 0 → is_word h (lane_of y h.n l t s) ≡ true
  unfolding word_marks
  unmarked_word t inside none = word (is_word h (lane_of y h.n l t s)) (sym (rw zero-add at (get_or_from (λ t. mark (is_word h (lane_of y h.n l t s))) 0 l t 0 inside)) ∙ none)
    where
      word : (b : Bool) → mark b ≡ 0 → b ≡ true
      word true e = refl
      word false e = absurd (omega arith)

  -- the first lane that is not marked 0
  pub first_marked : (marks : List ℕ) → marks ≡ word_marks y h l s → first_false l 0 (λ t. eqb (get_or marks t 0) 0) ≡ first_wrong y h l s
  unfolding word_marks first_wrong
  first_marked marks are =
      search_ext l 0 _ (λ t. is_word h (lane_of y h.n l t s))
      (λ t low high.
      ap (λ (u : List ℕ). eqb (get_or u t 0) 0) are
      ∙ ap (λ (x : ℕ). eqb x 0) (rw zero-add at (get_or_from (λ t. mark (is_word h (lane_of y h.n l t s))) 0 l t 0 (omega arith)))
      ∙ unmarked (is_word h (lane_of y h.n l t s)))
    where
      unmarked : (b : Bool) → eqb (mark b) 0 ≡ b
      unmarked true = refl
      unmarked false = refl

-- the first place of a number other than 0
place_is : (xs : List ℕ) → position_or_len (λ x. not (eqb x 0)) xs ≡ first_false (length xs) 0 (λ t. eqb (get_or xs t 0) 0)
place_is xs =
    let none : ℕ → Bool = λ t. eqb (get_or xs t 0) 0 in
    position_or_len_is (λ x. not (eqb x 0)) xs (first_false (length xs) 0 none) 0
    (omega (arith, search_high (length xs) 0 none))
    (λ t low. ap not (search_passes (length xs) 0 none t (omega arith) low))
    (λ inside. ap not (search_fails (length xs) 0 none (omega (arith, inside))))

-- a place below l, or none where it is l
place_told : (l x : ℕ) (r : Option ℕ) → x ≤ l → r ≡ cond (ltb x l) (Some x) None → MatchOption r (x ≡ l) (λ t. (t ≡ x) × (t < l))
place_told l x r most is =
    rw is
    (by_test (ltb x l) (λ e. let low : x < l = ltb-true x l e in rw e (refl, low)) (λ e. let high : l ≤ x = ltb-false x l e in let end : x ≡ l = omega arith in rw e end))

-- the place of the first mark is the first wrong lane
pub marked_place : (y : Arrangement) (h : Header) (l : ℕ) (s marks : List ℕ) (r : Option ℕ) → marks ≡ word_marks y h l s → r ≡ position (λ x. not (eqb x 0)) marks → MatchOption r (first_wrong y h l s ≡ l) (λ t. (t ≡ first_wrong y h l s) × (t < l))
marked_place y h l s marks r are is =
    let long : length marks ≡ l = ap length are ∙ length_marks y h l s in
    let first : position_or_len (λ x. not (eqb x 0)) marks ≡ first_wrong y h l s = rw long at (place_is marks) ∙ first_marked y h l s marks are in
    place_told l (first_wrong y h l s) r (wrong_most y h l s) (rw (first, long) at is)

-- one lane
pub one_mark : (h : Header) (s marks : List ℕ) → length s ≡ h.n → length marks ≡ 1 → get_or marks 0 0 ≡ mark (is_word h s) → marks ≡ word_marks lane_after_lane h 1 s
unfolding word_marks
one_mark h s marks long one is =
    from_at _ marks 1 one
    (λ t lane.
    let none : t ≡ 0 = omega arith in
    rw none (is ∙ ap (λ (xs : List ℕ). mark (is_word h xs)) (sym (lane_is h.n 1 0 s s long (λ r row. let place : 0 * h.n + r ≡ r = omega (arith, zero-mul h.n) in rw place)))))
