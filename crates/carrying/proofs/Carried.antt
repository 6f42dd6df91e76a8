-- Words that are carried are read again, in symbols below p.
use mathlib.Core.Path.{◌≡◌, refl, sym, ap, ap₂, ◌∙◌}
use mathlib.Core.Bool.{Bool, true, false, not, ◌&&◌}
use mathlib.Core.List.{List, [], ◌∷◌, ◌++◌, append-nil}
use Prim.Native.Nat.{ℕ, zero, suc, ◌+◌, ◌-◌, ◌*◌, ◌/◌, ◌≤◌, ◌<◌}
use native.Mathlib.Nat.{div-mul-le_self, mul-le-mul, le_refl, le-div_iff_mul-le, one-mul, suc-mul}
use native.Mathlib.Omega.{arith}
use borrow.Author.Tests.{leb-true, leb-false, ltb-false, ne_eqb}
use lib.Bits.{bit_xor}
use lib.Dec.{leb, ltb}
use lib.ListN.{length, get_or, take, drop, length-append, length-drop, drop_of_length-le, take-append-drop, length-map}
use lib.Seq.{take_all, length-take-le, take_at, drop_at}
use Rattle.std.proofs.lemmas.List.{get_or-map}
use Rattle.lists.specs.Numbers.{all_below}
use Rattle.lists.specs.Padded.{zeros}
use Rattle.lists.proofs.Cases.{by_test}
use Rattle.lists.proofs.Fill.{length_zeros}
use Rattle.field.proofs.Xor.{xor_cancel}
use Rattle.carrying.specs.Groups.{by_groups, group_count}
use Rattle.carrying.specs.Masks.{masked, covered, mask_of, closed, opened}
use Rattle.carrying.specs.Carrying.{carries_none, group_words, carried_symbols, words_back}
use Rattle.carrying.proofs.Masks.{mask_serves}
use Rattle.carrying.proofs.Grouping.{groups_none, groups_next, by_groups_lem, count_none, count_next, groups_below}

-- a p that carries
pub record Carrier (p : ℕ) : Type 0 where
  pub large : 34815 < p
  pub word : p < 65536
  pub some : 1 ≤ group_words p
  pub few : group_words p ≤ 255
  pub masks : (group_words p + 1) * (65536 - p) ≤ 61440

module _ (p : ℕ) (large : 34815 < p) (word : p < 65536) where
  pub two_symbols : 2 ≤ 61440 / (65536 - p)
  two_symbols = (le-div_iff_mul-le {k = 65536 - p} (omega arith)).1 (omega (arith, suc-mul 1 (65536 - p), one-mul (65536 - p)))

  words_some : (1 ≤ group_words p) × (group_words p ≤ 255) × (group_words p + 1 ≤ 61440 / (65536 - p))
  unfolding group_words
  words_some = (omega (arith, two_symbols), omega arith, omega (arith, two_symbols))

  pub is_carrier : Carrier p
  is_carrier = record {
    large = large;
    word = word;
    some = words_some.0;
    few = words_some.1;
    masks = omega (arith, mul-le-mul words_some.2 (le_refl (65536 - p)), div-mul-le_self 61440 (65536 - p));
  }

-- a prime below 65,536 that carries
pub carrier_good : (p : ℕ) → carries_none p ≡ false → (p ≡ 0 → ⊥) → p < 65536 → Carrier p
unfolding carries_none
carrier_good p e some word = is_carrier p (ltb-false p 34816 (ap (λ (b : Bool). not b && ltb p 34816) (sym (ne_eqb p 0 some)) ∙ e)) word

-- masks
pub length_masked : (c : ℕ) (ws : List ℕ) → length (masked c ws) ≡ length ws
unfolding masked
length_masked c ws = length-map ws (λ w. bit_xor w c)

-- a word under a mask
pub masked_at : (c : ℕ) (ws : List ℕ) (i : ℕ) → i < length ws → get_or (masked c ws) i 0 ≡ bit_xor (get_or ws i 0) c
unfolding masked
masked_at c ws i h = get_or-map (λ w. bit_xor w c) ws i 0 0 h

pub masked_twice : (c : ℕ) (ws : List ℕ) → masked c (masked c ws) ≡ ws
unfolding masked
masked_twice c [] = refl
masked_twice c (w ∷ ws) = ap₂ ◌∷◌ (xor_cancel w c) (masked_twice c ws)

-- one group: read again, whatever its mask; its length, its symbols
pub opened_covered : (c : ℕ) (ws : List ℕ) → opened (covered c ws) ≡ ws
unfolding opened covered
opened_covered c ws = masked_twice c ws

pub opened_closed : (p : ℕ) (ws : List ℕ) → opened (closed p ws) ≡ ws
unfolding closed
opened_closed p ws = opened_covered (mask_of p ws) ws

pub length_closed : (p : ℕ) (ws : List ℕ) → length (closed p ws) ≡ length ws + 1
unfolding closed covered
length_closed p ws = omega (arith, length_masked (mask_of p ws) ws)

pub length_opened : (xs : List ℕ) → 0 < length xs → length (opened xs) + 1 ≡ length xs
unfolding opened
length_opened [] h = absurd (omega arith)
length_opened (c ∷ xs) h = omega (arith, length_masked c xs)

module _ (p : ℕ) (carrier : Carrier p) where
  -- a group has a mask: it is a symbol, and makes symbols of all words
  pub closed_below : (ws : List ℕ) → length ws ≤ group_words p → all_below 65536 ws ≡ true → all_below p (closed p ws) ≡ true
  closed_below ws h low =
      let more : length ws + 1 ≤ group_words p + 1 = omega arith in
      mask_serves p ws low (omega (arith, carrier.masks, mul-le-mul more (le_refl (65536 - p))))

  -- every symbol that carries is below p
  pub carried_below : (ws : List ℕ) → all_below 65536 ws ≡ true → all_below p (carried_symbols p ws) ≡ true
  unfolding carried_symbols
  carried_below = groups_below (closed p) (group_words p) 65536 p carrier.some closed_below

-- a group and the groups behind it, which are none where it is short
module _ (p m : ℕ) (some : 1 ≤ m) (ws : List ℕ) (h : 0 < length ws) where
  here : List ℕ
  here = closed p (take m ws)

  after : List ℕ
  after = by_groups (closed p) m (drop m ws)

  full : m ≤ length ws → length here ≡ m + 1
  unfolding here
  full long = length_closed p (take m ws) ∙ ap (λ (x : ℕ). x + 1) (length-take-le m ws long)

  short : length ws < m → (length here ≡ length ws + 1) × (after ≡ [])
  unfolding here after
  short less = (
    length_closed p (take m ws) ∙ ap (λ (x : List ℕ). length x + 1) (take_all m ws (omega arith)),
    groups_none (closed p) m some (drop m ws) (length-drop m ws ∙ omega arith),
  )

  -- both are found again where the group ends
  parted : (take (m + 1) (here ++ after) ≡ here) × (drop (m + 1) (here ++ after) ≡ after)
  parted =
      by_test (leb m (length ws))
      (λ e.
      let long = full (leb-true m (length ws) e) in
      (take_at here after (m + 1) long, drop_at here after (m + 1) long))
      (λ e.
      let (long, none) = short (leb-false m (length ws) e) in
      let most : length here ≤ m + 1 = omega (arith, leb-false m (length ws) e) in
      rw (none, append-nil) (take_all (m + 1) here most, drop_of_length-le here {i = m + 1} most))

  some_here : 0 < length (here ++ after)
  unfolding here
  some_here = omega (arith, length-append here after, length_closed p (take m ws))

  -- one group is read again where the others are
  again : by_groups opened (m + 1) after ≡ drop m ws → by_groups opened (m + 1) (here ++ after) ≡ ws
  unfolding here
  again rest =
      groups_next opened (m + 1) (omega arith) (here ++ after) some_here
      ∙ ap₂ (λ (x y : List ℕ). opened x ++ by_groups opened (m + 1) y) parted.0 parted.1
      ∙ ap₂ ◌++◌ (opened_closed p (take m ws)) rest
      ∙ take-append-drop m ws

module _ (p : ℕ) (some : 1 ≤ group_words p) where
  -- words that are carried are read again
  pub words_back_lem : (ws : List ℕ) → words_back p (carried_symbols p ws) ≡ ws
  unfolding words_back carried_symbols here after
  words_back_lem = by_groups_lem (group_words p) some (λ ws. by_groups opened (group_words p + 1) (by_groups (closed p) (group_words p) ws) ≡ ws)
      (ap (by_groups opened (group_words p + 1)) (groups_none (closed p) (group_words p) some [] refl) ∙ groups_none opened (group_words p + 1) (omega arith) [] refl)
      (λ ws h rest. ap (by_groups opened (group_words p + 1)) (groups_next (closed p) (group_words p) some ws h) ∙ again p (group_words p) some ws h rest)

  -- how many symbols
  pub length_carried : (ws : List ℕ) → length (carried_symbols p ws) ≡ length ws + group_count (group_words p) (length ws)
  unfolding carried_symbols
  length_carried = by_groups_lem (group_words p) some (λ ws. length (by_groups (closed p) (group_words p) ws) ≡ length ws + group_count (group_words p) (length ws))
      (ap length (groups_none (closed p) (group_words p) some [] refl) ∙ omega (arith, count_none (group_words p) some))
      (λ ws h rest.
      let m = group_words p in
      ap length (groups_next (closed p) m some ws h)
      ∙ length-append (closed p (take m ws)) (by_groups (closed p) m (drop m ws))
      ∙ omega (
        arith,
        length_closed p (take m ws),
        rest,
        count_next m (length ws) some h,
        ap (group_count m) (length-drop m ws),
        length-drop m ws,
        ap length (take-append-drop m ws),
        length-append (take m ws) (drop m ws),
      ))

  -- how many words are read
  pub length_back : (xs : List ℕ) → length (words_back p xs) + group_count (group_words p + 1) (length xs) ≡ length xs
  unfolding words_back
  length_back = by_groups_lem (group_words p + 1) (omega arith) (λ xs. length (by_groups opened (group_words p + 1) xs) + group_count (group_words p + 1) (length xs) ≡ length xs)
      (omega (arith, ap length (groups_none opened (group_words p + 1) (omega arith) [] refl), count_none (group_words p + 1) (omega arith)))
      (λ xs h rest.
      let m = group_words p + 1 in
      omega (
        arith,
        ap length (groups_next opened m (omega arith) xs h),
        length-append (opened (take m xs)) (by_groups opened m (drop m xs)),
        length_opened (take m xs) (first_some m xs (omega arith) h),
        rest,
        count_next m (length xs) (omega arith) h,
        ap (group_count m) (length-drop m xs),
        length-drop m xs,
        ap length (take-append-drop m xs),
        length-append (take m xs) (drop m xs),
      ))
    where
      first_some : (m : ℕ) (xs : List ℕ) → 0 < m → 0 < length xs → 0 < length (take m xs)
      first_some zero xs a b = absurd (omega arith)
      first_some (suc m) [] a b = absurd (omega arith)
      first_some (suc m) (x ∷ xs) a b = omega arith

  -- as many as there were, from so many symbols
  pub length_again : (n : ℕ) (xs : List ℕ) → length xs ≡ n + group_count (group_words p) n → length (words_back p xs) ≡ n
  length_again n xs long =
      let these = length_carried (zeros n) in
      let same : length (carried_symbols p (zeros n)) ≡ length xs = these ∙ ap (λ (x : ℕ). x + group_count (group_words p) x) (length_zeros n) ∙ sym long in
      let back = length_back (carried_symbols p (zeros n)) in
      omega (arith, ap length (words_back_lem (zeros n)), length_zeros n, ap (group_count (group_words p + 1)) same, length_back xs)
