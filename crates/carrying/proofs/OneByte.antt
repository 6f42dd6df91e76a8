-- One byte that is changed where symbols carry it: one symbol changes, while the byte's word is a symbol under the mask of its group.
use mathlib.Core.Path.{◌≡◌, refl, sym, ap, ap₂, ◌∙◌}
use mathlib.Core.Bool.{true}
use mathlib.Core.List.{List, [], ◌∷◌, ◌++◌}
use Prim.Native.Nat.{ℕ, zero, suc, ◌+◌, ◌-◌, ◌*◌, ◌/◌, ◌%◌, ◌<◌}
use native.Mathlib.Nat.{div-add-mod', mod-lt, add-zero, mul_assoc}
use native.Mathlib.Numerals.{add-one}
use native.Mathlib.Omega.{arith}
use borrow.Author.Tests.{eqb-true, eqb-false, leb-true, leb-false}
use lib.Bits.{bit_xor}
use lib.Dec.{eqb, leb}
use lib.ListN.{length, get_or, set, take, drop, length-set, length-take, length-drop, take-append-drop, drop_of_length-le}
use lib.Seq.{take_all, get_or-take, get_or-drop, get_or-set_same, get_or-set_other, set-append_left, map-set, take-set-le, drop-set-add, ext_get_or}
use Rattle.lists.specs.Choice.{pick}
use Rattle.lists.specs.Numbers.{all_below}
use Rattle.lists.proofs.Cases.{by_test}
use Rattle.lists.proofs.Front.{drop_next}
use Rattle.lists.proofs.Numbers.{below_cons, below_set, below_take, below_drop}
use Rattle.layout.specs.Width.{symbols_of, symbol_bytes, bytes_of}
use Rattle.layout.proofs.Widths.{length_symbols, length_bytes, get_or_symbols}
use Rattle.layout.proofs.Readings.{symbol_pair, get_or_bytes}
use Rattle.carrying.specs.Masks.{masked, covered}
use Rattle.carrying.specs.Carrying.{group_words, words_back}
use Rattle.carrying.specs.Changing.{part_replaced, mask_after, changed_group, changed_symbols}
use Rattle.carrying.proofs.Carried.{length_masked, masked_at, masked_twice}
use Rattle.carrying.proofs.Changing.{chunk_long, changed_next, symbols_kept, groups_before, words_long, words_behind}

-- one number replaced
one_replaced : (r b : ℕ) (s : List ℕ) → r < length s → part_replaced r (b ∷ []) s ≡ set s r b
unfolding part_replaced
one_replaced r b [] h = absurd (omega arith)
one_replaced zero b (x ∷ s) h = refl
one_replaced (suc r) b (x ∷ s) h = ap (λ (l : List ℕ). x ∷ l) (one_replaced r b s (omega arith))

-- a word of which the byte at an even place, the high one, or at an odd place is replaced
abbrev pub word_with : ℕ → ℕ → ℕ → ℕ
word_with r b w = pick (eqb (r % 2) 0) (b * 256 + w % 256) (w / 256 * 256 + b)

module _ (r b : ℕ) (ws : List ℕ) (inside : r < length ws * 2) where
  high : (i : ℕ) → i < length ws → get_or (bytes_of 2 ws) (i * 2) 0 ≡ get_or ws i 0 / 256
  unfolding symbol_bytes
  high i h = rw add-zero at (get_or_bytes 2 ws i 0 h (omega arith))

  low : (i : ℕ) → i < length ws → get_or (bytes_of 2 ws) (i * 2 + 1) 0 ≡ get_or ws i 0 % 256
  unfolding symbol_bytes
  low i h = get_or_bytes 2 ws i 1 h (omega arith)

  after : List ℕ
  after = set (bytes_of 2 ws) r b

  long : length after ≡ length ws * 2
  unfolding after
  long = length-set (bytes_of 2 ws) r b ∙ length_bytes 2 ws

  here : (i : ℕ) → i < length ws → i ≡ r / 2 → get_or after (i * 2) 0 * 256 + get_or after (i * 2 + 1) 0 ≡ word_with r b (get_or ws (r / 2) 0)
  unfolding after
  here i h e =
      let all = length_bytes 2 ws in
      let word : get_or ws i 0 ≡ get_or ws (r / 2) 0 = ap (λ (n : ℕ). get_or ws n 0) e in
      by_test (eqb (r % 2) 0)
      (λ t.
      let even : i * 2 ≡ r = omega (arith, eqb-true (r % 2) 0 t) in
      let first : get_or (set (bytes_of 2 ws) r b) (i * 2) 0 ≡ b = ap (λ (n : ℕ). get_or (set (bytes_of 2 ws) r b) n 0) even ∙ get_or-set_same (bytes_of 2 ws) r b 0 (omega (arith, all)) in
      let second : get_or (set (bytes_of 2 ws) r b) (i * 2 + 1) 0 ≡ get_or ws (r / 2) 0 % 256 = get_or-set_other (bytes_of 2 ws) r (i * 2 + 1) b 0 (λ same. omega arith) ∙ low i h ∙ ap (λ (n : ℕ). n % 256) word in
      rw t (ap₂ (λ (x y : ℕ). x * 256 + y) first second))
      (λ t.
      let odd : i * 2 + 1 ≡ r = omega (arith, eqb-false (r % 2) 0 t) in
      let first : get_or (set (bytes_of 2 ws) r b) (i * 2) 0 ≡ get_or ws (r / 2) 0 / 256 = get_or-set_other (bytes_of 2 ws) r (i * 2) b 0 (λ same. omega arith) ∙ high i h ∙ ap (λ (n : ℕ). n / 256) word in
      let second : get_or (set (bytes_of 2 ws) r b) (i * 2 + 1) 0 ≡ b = ap (λ (n : ℕ). get_or (set (bytes_of 2 ws) r b) n 0) odd ∙ get_or-set_same (bytes_of 2 ws) r b 0 (omega (arith, all)) in
      rw t (ap₂ (λ (x y : ℕ). x * 256 + y) first second))

  elsewhere : (i : ℕ) → i < length ws → (i ≡ r / 2 → ⊥) → get_or after (i * 2) 0 * 256 + get_or after (i * 2 + 1) 0 ≡ get_or ws i 0
  unfolding after
  elsewhere i h other =
      let first = get_or-set_other (bytes_of 2 ws) r (i * 2) b 0 (λ same. other (omega arith)) ∙ high i h in
      let second = get_or-set_other (bytes_of 2 ws) r (i * 2 + 1) b 0 (λ same. other (omega arith)) ∙ low i h in omega (arith, first, second)

  -- the words of bytes of which one is replaced
  word_replaced : symbols_of 2 after ≡ set ws (r / 2) (word_with r b (get_or ws (r / 2) 0))
  word_replaced =
      let count = length_symbols 2 after in
      let w = word_with r b (get_or ws (r / 2) 0) in
      let as_many = length-set ws (r / 2) w in
      ext_get_or 0 (symbols_of 2 after) (set ws (r / 2) w) (omega (arith, count, long, as_many))
      (λ i h.
      let less : i < length ws = omega (arith, count, long) in
      get_or_symbols 2 after i (omega (arith, long))
      ∙ symbol_pair after i (omega (arith, long))
      ∙ by_test (eqb i (r / 2))
      (λ t.
      let same = eqb-true i (r / 2) t in
      here i less same ∙ sym (ap (λ (n : ℕ). get_or (set ws (r / 2) w) n 0) same ∙ get_or-set_same ws (r / 2) w 0 (omega (arith, same))))
      (λ t.
      let other = eqb-false i (r / 2) t in
      elsewhere i less other ∙ sym (get_or-set_other ws (r / 2) i w 0 other)))

-- in a group
module _ (p c r b : ℕ) (ws : List ℕ) (below : all_below p (c ∷ ws) ≡ true) (inside : r < length ws * 2) where
  new : ℕ
  new = word_with r b (get_or (masked c ws) (r / 2) 0)

  masked_set : masked c (set (masked c ws) (r / 2) new) ≡ set ws (r / 2) (bit_xor new c)
  unfolding masked
  masked_set = map-set (λ w. bit_xor w c) (masked c ws) (r / 2) new ∙ ap (λ (l : List ℕ). set l (r / 2) (bit_xor new c)) (masked_twice c ws)

  words_then : symbols_of 2 (part_replaced r (b ∷ []) (bytes_of 2 (masked c ws))) ≡ set (masked c ws) (r / 2) new
  unfolding new after
  words_then =
      let many = length_masked c ws in
      ap (symbols_of 2) (one_replaced r b (bytes_of 2 (masked c ws)) (omega (arith, length_bytes 2 (masked c ws), many))) ∙ word_replaced r b (masked c ws) (omega (arith, many))

  one_in_group : bit_xor new c < p → changed_group p r (b ∷ []) (c ∷ ws) ≡ c ∷ set ws (r / 2) (bit_xor new c)
  unfolding changed_group mask_after covered
  one_in_group good =
      let serves : all_below p (masked c (set (masked c ws) (r / 2) new)) ≡ true = rw masked_set (below_set p ws (r / 2) (bit_xor new c) good (below_cons p c ws below).1) in
      rw (words_then, serves) (ap (λ (l : List ℕ). c ∷ l) masked_set)

-- of all groups
module _ (p : ℕ) (some : 0 < group_words p) (xs : List ℕ) (below : all_below p xs ≡ true) (at b : ℕ) where
  abbrev m : ℕ
  m = group_words p

  -- its place in its group, the place of the group's mask, and that of its word's symbol
  abbrev r : ℕ
  r = at % (m * 2)

  abbrev pub mask_place : ℕ
  mask_place = at / (m * 2) * (m + 1)

  abbrev pub word_place : ℕ
  word_place = mask_place + 1 + r / 2

  abbrev pub symbol_with : ℕ
  symbol_with = let c = get_or xs mask_place 0 in bit_xor (word_with r b (bit_xor (get_or xs word_place 0) c)) c

  -- the word of a byte that is carried has its symbol
  pub word_inside : at < length (words_back p xs) * 2 → word_place < length xs
  word_inside h =
      let i = at / (m * 2) in
      let place : at ≡ i * (m * 2) + r = sym (div-add-mod' at (m * 2)) in
      let twice : i * (m * 2) ≡ i * m * 2 = sym (mul_assoc i m 2) in
      let less = mod-lt at {m = m * 2} (omega arith) in
      let (fits, is) = words_behind p i xs (omega (arith, place, twice, h)) in
      let left = drop mask_place xs in
      let behind = length-drop mask_place xs in
      let (none, next) = words_long p left in
      let more : 0 < length left = by_test (leb (length left) 0) (λ e. absurd (omega (arith, none (omega (arith, leb-true (length left) 0 e)), is, place, twice, h))) (λ e. leb-false (length left) 0 e) in
      let words = next more in
      let size = chunk_long m left more in
      by_test (leb (length (drop (m + 1) left)) 0)
      (λ e. omega (arith, (words_long p (drop (m + 1) left)).0 (omega (arith, leb-true (length (drop (m + 1) left)) 0 e)), words, size.2, behind, fits, is, place, twice, h))
      (λ e. omega (arith, size.3 (leb-false (length (drop (m + 1) left)) 0 e), size.2, behind, fits, less))

  pub one_symbol : word_place < length xs → symbol_with < p → changed_symbols p at (b ∷ []) xs ≡ set xs word_place symbol_with
  unfolding new
  one_symbol inside good =
      let c = get_or xs mask_place 0 in
      let left = drop mask_place xs in
      let ws = take m (drop (mask_place + 1) xs) in
      let rest = drop (m + 1) left in
      let v = symbol_with in
      let less = mod-lt at {m = m * 2} (omega arith) in
      let first : left ≡ c ∷ drop (mask_place + 1) xs = drop_next xs mask_place 0 (omega arith) in
      let chunk : take (m + 1) left ≡ c ∷ ws = ap (take (m + 1)) first ∙ rw add-one refl in
      let count : r / 2 < length ws = omega (arith, length-take m (drop (mask_place + 1) xs), length-drop (mask_place + 1) xs, less) in
      let word : get_or (masked c ws) (r / 2) 0 ≡ bit_xor (get_or xs word_place 0) c = masked_at c ws (r / 2) count ∙ ap (λ (x : ℕ). bit_xor x c) (get_or-take m (drop (mask_place + 1) xs) (r / 2) 0 (omega (arith, less)) ∙ get_or-drop (mask_place + 1) xs (r / 2) 0) in
      let same : bit_xor (word_with r b (get_or (masked c ws) (r / 2) 0)) c ≡ v = ap (λ (w : ℕ). bit_xor (word_with r b w) c) word in
      let group_below : all_below p (c ∷ ws) ≡ true = rw chunk at (below_take p (m + 1) left (below_drop p mask_place xs below)) in
      let group = one_in_group p c r b ws group_below (omega arith) (rw same good) in
      let place : at ≡ at / (m * 2) * (m * 2) + r = sym (div-add-mod' at (m * 2)) in
      let fits : word_place ≡ mask_place + (1 + r / 2) = omega arith in
      let one : 1 + r / 2 ≡ suc (r / 2) = omega arith in
      ap (λ (n : ℕ). changed_symbols p n (b ∷ []) xs) place
      ∙ groups_before p (at / (m * 2)) r (b ∷ []) xs below
      ∙ ap (λ (l : List ℕ). take mask_place xs ++ l)
      (changed_next p r (b ∷ []) left (omega (arith, length-drop mask_place xs))
      ∙ ap₂ (λ (x y : List ℕ). changed_group p r x (take (m + 1) left) ++ changed_symbols p (r - m * 2) y rest) (take_all (m * 2 - r) (b ∷ []) (omega (arith, less))) (drop_of_length-le (b ∷ []) {i = m * 2 - r} (omega (arith, less)))
      ∙ ap₂ ◌++◌ (ap (changed_group p r (b ∷ [])) chunk ∙ group ∙ ap (λ (x : ℕ). c ∷ set ws (r / 2) x) same) (symbols_kept p rest (r - m * 2) (below_drop p (m + 1) left (below_drop p mask_place xs below)))
      ∙ sym (set-append_left (c ∷ ws) rest (suc (r / 2)) v (omega arith))
      ∙ ap (λ (l : List ℕ). set l (suc (r / 2)) v) (ap (λ (l : List ℕ). l ++ rest) (sym chunk) ∙ take-append-drop (m + 1) left)
      ∙ ap (λ (n : ℕ). set left n v) (sym one)
      ∙ sym (drop-set-add mask_place xs (1 + r / 2) v))
      ∙ ap (λ (l : List ℕ). l ++ drop mask_place (set xs (mask_place + (1 + r / 2)) v)) (sym (take-set-le mask_place xs (mask_place + (1 + r / 2)) v (omega arith)))
      ∙ take-append-drop mask_place (set xs (mask_place + (1 + r / 2)) v)
      ∙ ap (λ (n : ℕ). set xs n v) (sym fits)
