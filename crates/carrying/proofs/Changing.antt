-- Bytes that are changed where symbols carry them: group by group, what is read afterwards, and that what changes are symbols.
use mathlib.Core.Path.{◌≡◌, refl, sym, ap, ap₂, ◌∙◌}
use mathlib.Core.Bool.{true}
use mathlib.Core.List.{List, [], ◌∷◌, ◌++◌, append_assoc}
use Prim.Native.Nat.{ℕ, zero, suc, ◌+◌, ◌-◌, ◌*◌, ◌≤◌, ◌<◌}
use native.Mathlib.Nat.{zero-mul, zero-add, suc-mul}
use native.Mathlib.Omega.{arith}
use borrow.Author.Tests.{leb-true, leb-false}
use lib.Bits.{bit_xor, xor_lt}
use lib.Dec.{leb}
use lib.ListN.{length, take, drop, length-append, length-drop, take-append-drop, drop_of_length-le}
use lib.Seq.{take-nil, drop-nil, take_all, take-add, drop-drop}
use Rattle.std.proofs.lemmas.List.{nil_from_length}
use Rattle.lists.specs.Numbers.{all_below}
use Rattle.lists.proofs.Cases.{by_test}
use Rattle.lists.proofs.Numbers.{below_cons, cons_below, below_at, at_below, below_take, below_drop, below_append}
use Rattle.layout.specs.Width.{symbols_of, bytes_of}
use Rattle.layout.proofs.LaneParts.{bytes_replaced}
use Rattle.layout.proofs.Widths.{length_bytes, symbols_bytes}
use Rattle.layout.proofs.Readings.{count_symbols, symbols_below, bytes_below, bytes_symbols}
use Rattle.carrying.specs.Groups.{by_groups}
use Rattle.carrying.specs.Masks.{masked, covered, mask_of, closed, opened}
use Rattle.carrying.specs.Carrying.{group_words, words_back}
use Rattle.carrying.specs.Changing.{part_replaced, mask_after, changed_group, changed_from, changed_symbols}
use Rattle.carrying.proofs.Grouping.{groups_none, groups_next, groups_joined, by_groups_lem, below_none}
use Rattle.carrying.proofs.Carried.{Carrier, length_masked, masked_twice, opened_covered, length_opened, closed_below}
use Rattle.carrying.proofs.Replaced.{none_replaced, length_replaced, below_replaced, replaced_joined}

-- there are enough turns as soon as there are as many as symbols
module _ (p m : ℕ) where
  enough : (f h at : ℕ) (bs xs : List ℕ) → length xs ≤ f → length xs ≤ h → changed_from p m f at bs xs ≡ changed_from p m h at bs xs
  unfolding changed_from
  enough zero zero at bs xs a b = refl
  enough zero (suc h) at bs [] a b = refl
  enough zero (suc h) at bs (x ∷ xs) a b = absurd (omega arith)
  enough (suc f) zero at bs [] a b = refl
  enough (suc f) zero at bs (x ∷ xs) a b = absurd (omega arith)
  enough (suc f) (suc h) at bs [] a b = refl
  enough (suc f) (suc h) at bs (x ∷ xs) a b =
      let long = length-drop (m + 1) (x ∷ xs) in
      ap (λ (l : List ℕ). changed_group p at (take (m * 2 - at) bs) (take (m + 1) (x ∷ xs)) ++ l) (enough f h (at - m * 2) (drop (m * 2 - at) bs) (drop (m + 1) (x ∷ xs)) (omega arith) (omega arith))

-- no symbol is left ..
pub changed_none : (p at : ℕ) (bs : List ℕ) → changed_symbols p at bs [] ≡ []
unfolding changed_symbols changed_from
changed_none p at bs = refl

-- .. or a group and what follows it
pub changed_next : (p at : ℕ) (bs xs : List ℕ) → 0 < length xs →
    let m = group_words p in
    changed_symbols p at bs xs ≡ changed_group p at (take (m * 2 - at) bs) (take (m + 1) xs) ++ changed_symbols p (at - m * 2) (drop (m * 2 - at) bs) (drop (m + 1) xs)
unfolding changed_symbols changed_from
changed_next p at bs [] h = absurd (omega arith)
changed_next p at bs (x ∷ xs) h =
    let m = group_words p in
    let long = length-drop (m + 1) (x ∷ xs) in
    ap (λ (l : List ℕ). changed_group p at (take (m * 2 - at) bs) (take (m + 1) (x ∷ xs)) ++ l) (enough p m (length xs) (length (drop (m + 1) (x ∷ xs))) (at - m * 2) (drop (m * 2 - at) bs) (drop (m + 1) (x ∷ xs)) (omega arith) (omega arith))

below_more : (a b : ℕ) (xs : List ℕ) → a ≤ b → all_below a xs ≡ true → all_below b xs ≡ true
below_more a b xs less low = at_below b xs (λ i h. omega (arith, below_at a xs low i h))

-- words under a mask are words
masked_words : (c : ℕ) (ws : List ℕ) → c < 65536 → all_below 65536 ws ≡ true → all_below 65536 (masked c ws) ≡ true
unfolding masked all_below
masked_words c [] hc low = refl
masked_words c (w ∷ ws) hc low =
    let (here, rest) = below_cons 65536 w ws low in cons_below 65536 (bit_xor w c) (masked c ws) (xor_lt 16 w c here hc) (masked_words c ws hc rest)

-- a group of which nothing is replaced is as it was
pub group_kept : (p at : ℕ) (xs : List ℕ) → all_below p xs ≡ true → changed_group p at [] xs ≡ xs
unfolding changed_group mask_after covered
group_kept p at [] low = refl
group_kept p at (c ∷ ws) low = rw (none_replaced at (bytes_of 2 (masked c ws)), symbols_bytes 2 (masked c ws) (omega arith), masked_twice c ws, (below_cons p c ws low).1) (ap (λ (l : List ℕ). c ∷ l) (masked_twice c ws))

-- a group that was changed: as many symbols, and what is read
pub record GroupChanged (p at : ℕ) (bs xs : List ℕ) : Type 0 where
  pub size : length (changed_group p at bs xs) ≡ length xs
  pub below : all_below p (changed_group p at bs xs) ≡ true
  pub back : bytes_of 2 (opened (changed_group p at bs xs)) ≡ part_replaced at bs (bytes_of 2 (opened xs))

group_same : (p at : ℕ) (xs : List ℕ) → all_below p xs ≡ true → GroupChanged p at [] xs
group_same p at xs low =
    let is = group_kept p at xs low in
    record { size = ap length is; below = rw is low; back = ap (λ (ys : List ℕ). bytes_of 2 (opened ys)) is ∙ sym (none_replaced at (bytes_of 2 (opened xs))) }

module _ (p : ℕ) (carrier : Carrier p) (at : ℕ) (bs : List ℕ) (bytes : all_below 256 bs ≡ true) where
  -- the words of a group afterwards, as bytes
  module _ (c : ℕ) (ws : List ℕ) (low : all_below p (c ∷ ws) ≡ true) (fits : at + length bs ≤ length ws * 2) where
    part : List ℕ
    part = part_replaced at bs (bytes_of 2 (masked c ws))

    long : length part ≡ length ws * 2
    unfolding part
    long =
        let whole = length_bytes 2 (masked c ws) in
        let same = length_masked c ws in length_replaced at bs (bytes_of 2 (masked c ws)) (omega (arith, whole, same)) ∙ whole ∙ ap (λ (n : ℕ). n * 2) same

    part_bytes : all_below 256 part ≡ true
    unfolding part
    part_bytes =
        let (here, rest) = below_cons p c ws low in
        below_replaced 256 at bs (bytes_of 2 (masked c ws)) bytes (bytes_below 2 (masked c ws) (masked_words c ws (omega (arith, carrier.word)) (below_more p 65536 ws (omega (arith, carrier.word)) rest)))

    count : length (symbols_of 2 part) ≡ length ws
    count = count_symbols 2 (length ws) part (omega arith) long

    same_mask : (words : List ℕ) → all_below p (masked c words) ≡ true → all_below p (covered c words) ≡ true
    unfolding covered
    same_mask words e = cons_below p c (masked c words) (below_cons p c ws low).0 e

    new_mask : (words : List ℕ) → length words ≤ group_words p → all_below 65536 words ≡ true → all_below p (covered (mask_of p words) words) ≡ true
    unfolding closed
    new_mask words few low = closed_below p carrier words few low

    served : length ws ≤ group_words p → all_below p (covered (mask_after p c (symbols_of 2 part)) (symbols_of 2 part)) ≡ true
    unfolding mask_after
    served few =
        let words = symbols_of 2 part in
        by_test (all_below p (masked c words))
        (λ e. rw e (same_mask words e))
        (λ e. rw e (new_mask words (omega (arith, count)) (symbols_below 2 part (omega arith) part_bytes)))

    group_is : length ws ≤ group_words p → GroupChanged p at bs (c ∷ ws)
    unfolding changed_group covered opened part
    group_is few = record {
      size = omega (arith, length_masked (mask_after p c (symbols_of 2 part)) (symbols_of 2 part), count);
      below = served few;
      back = ap (bytes_of 2) (opened_covered (mask_after p c (symbols_of 2 part)) (symbols_of 2 part)) ∙ bytes_symbols 2 (length ws) part (omega arith) long part_bytes;
    }

  pub group_changed : (xs : List ℕ) → 0 < length xs → length xs ≤ group_words p + 1 → all_below p xs ≡ true → at + length bs + 2 ≤ length xs * 2 → GroupChanged p at bs xs
  group_changed [] some few low fits = absurd (omega arith)
  group_changed (c ∷ ws) some few low fits = group_is c ws low (omega arith) (omega arith)

-- where nothing is replaced all is as it was
pub symbols_kept : (p : ℕ) (xs : List ℕ) (at : ℕ) → all_below p xs ≡ true → changed_symbols p at [] xs ≡ xs
symbols_kept p = by_groups_lem (group_words p + 1) (omega arith) (λ xs. (at : ℕ) → all_below p xs ≡ true → changed_symbols p at [] xs ≡ xs)
    (λ at low. changed_none p at [])
    (λ xs h rest at low.
    let m = group_words p in
    changed_next p at [] xs h
    ∙ ap₂ (λ (x y : List ℕ). changed_group p at x (take (m + 1) xs) ++ changed_symbols p (at - m * 2) y (drop (m + 1) xs)) (take-nil (m * 2 - at)) (drop-nil (m * 2 - at))
    ∙ ap₂ ◌++◌ (group_kept p at (take (m + 1) xs) (below_take p (m + 1) xs low)) (rest (at - m * 2) (below_drop p (m + 1) xs low))
    ∙ take-append-drop (m + 1) xs)

-- groups before the first that is changed are as they were
pub groups_before : (p i r : ℕ) (bs xs : List ℕ) → all_below p xs ≡ true →
    let m = group_words p in changed_symbols p (i * (m * 2) + r) bs xs ≡ take (i * (m + 1)) xs ++ changed_symbols p r bs (drop (i * (m + 1)) xs)
groups_before p zero r bs xs low =
    let m = group_words p in rw (zero-mul (m * 2), zero-mul (m + 1), zero-add r) refl
groups_before p (suc i) r bs [] low =
    let m = group_words p in
    changed_none p _ bs ∙ sym (ap₂ (λ (x y : List ℕ). x ++ changed_symbols p r bs y) (take-nil (suc i * (m + 1))) (drop-nil (suc i * (m + 1))) ∙ changed_none p r bs)
groups_before p (suc i) r bs (x ∷ xs) low =
    let m = group_words p in
    let s : List ℕ = x ∷ xs in
    let a = suc i * (m * 2) + r in
    let none : m * 2 - a ≡ 0 = omega (arith, suc-mul i (m * 2)) in
    let left : a - m * 2 ≡ i * (m * 2) + r = omega (arith, suc-mul i (m * 2)) in
    let places : suc i * (m + 1) ≡ m + 1 + i * (m + 1) = omega (arith, suc-mul i (m + 1)) in
    changed_next p a bs s (omega arith)
    ∙ ap₂ (λ (u v : ℕ). changed_group p a (take u bs) (take (m + 1) s) ++ changed_symbols p v (drop u bs) (drop (m + 1) s)) none left
    ∙ ap₂ ◌++◌ (group_kept p a (take (m + 1) s) (below_take p (m + 1) s low)) (groups_before p i r bs (drop (m + 1) s) (below_drop p (m + 1) s low))
    ∙ sym (append_assoc (take (m + 1) s) (take (i * (m + 1)) (drop (m + 1) s)) (changed_symbols p r bs (drop (i * (m + 1)) (drop (m + 1) s))))
    ∙ ap₂ (λ (u v : List ℕ). u ++ changed_symbols p r bs v) (sym (take-add (m + 1) (i * (m + 1)) s)) (drop-drop (i * (m + 1)) (m + 1) s)
    ∙ ap (λ (n : ℕ). take n s ++ changed_symbols p r bs (drop n s)) (sym places)

-- all symbols that were changed: as many, symbols, and what is read
pub record Changed (p at : ℕ) (bs xs : List ℕ) : Type 0 where
  pub size : length (changed_symbols p at bs xs) ≡ length xs
  pub below : all_below p (changed_symbols p at bs xs) ≡ true
  pub back : bytes_of 2 (words_back p (changed_symbols p at bs xs)) ≡ part_replaced at bs (bytes_of 2 (words_back p xs))

-- a part that ends before n takes nothing from there on
ends_before : (n k at : ℕ) (bs : List ℕ) → at + length bs ≤ k → k ≤ n → (take (n - at) bs ≡ bs) × (drop (n - at) bs ≡ [])
ends_before n k at bs fits less = (take_all (n - at) bs (omega arith), drop_of_length-le bs {i = n - at} (omega arith))

-- bytes of joined symbols
pub bytes_joined : (xs ys : List ℕ) → bytes_of 2 (xs ++ ys) ≡ bytes_of 2 xs ++ bytes_of 2 ys
bytes_joined xs ys = sym (bytes_replaced 2 0 0 xs ys)

-- a group is whole, or the last
module _ (m : ℕ) (xs : List ℕ) (h : 0 < length xs) where
  pub chunk_long : (0 < length (take (m + 1) xs)) × (length (take (m + 1) xs) ≤ m + 1) × (length (take (m + 1) xs) + length (drop (m + 1) xs) ≡ length xs) × (0 < length (drop (m + 1) xs) → length (take (m + 1) xs) ≡ m + 1)
  chunk_long =
      let behind = length-drop (m + 1) xs in
      let all = sym (length-append (take (m + 1) xs) (drop (m + 1) xs)) ∙ ap length (take-append-drop (m + 1) xs) in
      (omega arith, omega arith, all, λ more. omega arith)

-- how many words a group has, and those behind it
pub words_long : (p : ℕ) (xs : List ℕ) → (length xs ≡ 0 → length (words_back p xs) ≡ 0) × (0 < length xs → length (words_back p xs) + 1 ≡ length (take (group_words p + 1) xs) + length (words_back p (drop (group_words p + 1) xs)))
unfolding words_back
words_long p xs = (
  λ e. ap length (groups_none opened (group_words p + 1) (omega arith) xs e),
  λ h.
      let m = group_words p in
      omega (
        arith,
        ap length (groups_next opened (m + 1) (omega arith) xs h),
        length-append (opened (take (m + 1) xs)) (by_groups opened (m + 1) (drop (m + 1) xs)),
        length_opened (take (m + 1) xs) (chunk_long m xs h).0,
      ),
)

-- groups in front of a word
pub words_behind : (p i : ℕ) (xs : List ℕ) → i * group_words p < length (words_back p xs) →
    let m = group_words p in (i * (m + 1) ≤ length xs) × (length (words_back p xs) ≡ i * m + length (words_back p (drop (i * (m + 1)) xs)))
words_behind p zero xs h = let m = group_words p in rw (zero-mul (m + 1), zero-mul m, zero-add) (omega arith, refl)
words_behind p (suc i) xs h =
    let m = group_words p in
    let (none, next) = words_long p xs in
    let some : 0 < length xs = by_test (leb (length xs) 0) (λ e. absurd (omega (arith, none (omega (arith, leb-true (length xs) 0 e))))) (λ e. leb-false (length xs) 0 e) in
    let size = chunk_long m xs some in
    let words = next some in
    let more : 0 < length (drop (m + 1) xs) =
    by_test (leb (length (drop (m + 1) xs)) 0)
    (λ e. absurd (omega (arith, words, size.1, (words_long p (drop (m + 1) xs)).0 (omega (arith, leb-true (length (drop (m + 1) xs)) 0 e)), suc-mul i m)))
    (λ e. leb-false (length (drop (m + 1) xs)) 0 e) in
    let full = size.3 more in
    let (low, is) = words_behind p i (drop (m + 1) xs) (omega (arith, words, full, suc-mul i m)) in
    let place : m + 1 + i * (m + 1) ≡ suc i * (m + 1) = omega (arith, suc-mul i (m + 1)) in
    let same : drop (i * (m + 1)) (drop (m + 1) xs) ≡ drop (suc i * (m + 1)) xs = drop-drop (i * (m + 1)) (m + 1) xs ∙ ap (λ (n : ℕ). drop n xs) place in
    (omega (arith, low, size.2, full, place), omega (arith, words, full, is, ap (λ (l : List ℕ). length (words_back p l)) same, suc-mul i m))

module _ (p : ℕ) (carrier : Carrier p) where
  -- one group more, and those behind it
  module _ (xs : List ℕ) (h : 0 < length xs) (at : ℕ) (bs : List ℕ) (bytes : all_below 256 bs ≡ true) (low : all_below p xs ≡ true) (fits : at + length bs ≤ length (words_back p xs) * 2) where
    m : ℕ
    m = group_words p

    chunk : List ℕ
    chunk = take (m + 1) xs

    rest : List ℕ
    rest = drop (m + 1) xs

    here : List ℕ
    here = take (m * 2 - at) bs

    behind : List ℕ
    behind = drop (m * 2 - at) bs

    words_next : words_back p xs ≡ opened chunk ++ words_back p rest
    unfolding words_back m chunk rest
    words_next = groups_next opened (group_words p + 1) (omega arith) xs h

    none_left : length rest ≡ 0 → words_back p rest ≡ []
    unfolding words_back
    none_left e = groups_none opened (group_words p + 1) (omega arith) rest e

    sizes : (0 < length chunk) × (length chunk ≤ m + 1) × (length chunk + length rest ≡ length xs) × (0 < length rest → length chunk ≡ m + 1)
    unfolding chunk rest
    sizes = chunk_long m xs h

    words_count : length (words_back p xs) + 1 ≡ length chunk + length (words_back p rest)
    words_count = omega (arith, ap length words_next, length-append (opened chunk) (words_back p rest), length_opened chunk sizes.0)

    -- what of the part lies in the group, and what behind it
    lengths : (length here + length behind ≡ length bs) × (length here ≤ m * 2 - at)
    unfolding here behind
    lengths =
        let all = sym (length-append (take (m * 2 - at) bs) (drop (m * 2 - at) bs)) ∙ ap length (take-append-drop (m * 2 - at) bs) in
        (all, omega (arith, all, length-drop (m * 2 - at) bs))

    behind_long : length behind ≡ length bs - (m * 2 - at)
    unfolding behind
    behind_long = length-drop (m * 2 - at) bs

    -- the whole part lies in a last group
    last_fits : length rest ≡ 0 → at + length bs + 2 ≤ length chunk * 2
    last_fits e = omega (arith, words_count, ap length (none_left e))

    here_fits : at < m * 2 → at + length here + 2 ≤ length chunk * 2
    here_fits low =
        by_test (leb (length rest) 0)
        (λ e. omega (arith, lengths, last_fits (omega (arith, leb-true (length rest) 0 e))))
        (λ e. omega (arith, lengths, sizes.3 (leb-false (length rest) 0 e)))

    chunk_below : all_below p chunk ≡ true
    unfolding chunk
    chunk_below = below_take p (m + 1) xs low

    here_bytes : all_below 256 here ≡ true
    unfolding here
    here_bytes = below_take 256 (m * 2 - at) bs bytes

    group_here : GroupChanged p at here chunk
    unfolding m
    group_here =
        by_test (leb (m * 2) at)
        (λ e.
        let none = nil_from_length here (omega (arith, lengths, leb-true (m * 2) at e)) in
        rw none (group_same p at chunk chunk_below))
        (λ e. group_changed p carrier at here here_bytes chunk sizes.0 (omega (arith, sizes.1)) chunk_below (here_fits (leb-false (m * 2) at e)))

    behind_fits : at - m * 2 + length behind ≤ length (words_back p rest) * 2
    behind_fits =
        by_test (leb (length rest) 0)
        (λ e.
        let end : length rest ≡ 0 = omega (arith, leb-true (length rest) 0 e) in
        omega (arith, behind_long, words_count, ap length (none_left end), sizes.1, fits))
        (λ e. omega (arith, behind_long, words_count, sizes.3 (leb-false (length rest) 0 e), fits))

    chunk_bytes : List ℕ
    chunk_bytes = bytes_of 2 (opened chunk)

    rest_bytes : List ℕ
    rest_bytes = bytes_of 2 (words_back p rest)

    chunk_bytes_long : length chunk_bytes + 2 ≡ length chunk * 2
    unfolding chunk_bytes
    chunk_bytes_long = omega (arith, length_bytes 2 (opened chunk), length_opened chunk sizes.0)

    bytes_next : bytes_of 2 (words_back p xs) ≡ chunk_bytes ++ rest_bytes
    unfolding chunk_bytes rest_bytes
    bytes_next = ap (bytes_of 2) words_next ∙ bytes_joined (opened chunk) (words_back p rest)

    parted : part_replaced at bs (chunk_bytes ++ rest_bytes) ≡ part_replaced at here chunk_bytes ++ part_replaced (at - m * 2) behind rest_bytes
    unfolding here behind
    parted =
        let k = length chunk_bytes in
        by_test (leb (length rest) 0)
        (λ e.
        let end = last_fits (omega (arith, leb-true (length rest) 0 e)) in
        let (first, none) = ends_before k k at bs (omega (arith, end, chunk_bytes_long)) (omega arith) in
        let (first', none') = ends_before (m * 2) k at bs (omega (arith, end, chunk_bytes_long)) (omega (arith, chunk_bytes_long, sizes.1)) in
        replaced_joined at bs chunk_bytes rest_bytes
        ∙ ap₂ (λ (x y : List ℕ). part_replaced at x chunk_bytes ++ part_replaced (at - k) y rest_bytes) first none
        ∙ ap (λ (l : List ℕ). part_replaced at bs chunk_bytes ++ l) (none_replaced (at - k) rest_bytes ∙ sym (none_replaced (at - m * 2) rest_bytes))
        ∙ sym (ap₂ (λ (x y : List ℕ). part_replaced at x chunk_bytes ++ part_replaced (at - m * 2) y rest_bytes) first' none'))
        (λ e.
        let size : k ≡ m * 2 = omega (arith, chunk_bytes_long, sizes.3 (leb-false (length rest) 0 e)) in
        replaced_joined at bs chunk_bytes rest_bytes
        ∙ ap (λ (n : ℕ). part_replaced at (take (n - at) bs) chunk_bytes ++ part_replaced (at - n) (drop (n - at) bs) rest_bytes) size)

    read_next : (first others : List ℕ) → length first ≡ length chunk → length others ≡ length rest → words_back p (first ++ others) ≡ opened first ++ words_back p others
    unfolding words_back m
    read_next first others size size' =
        groups_joined opened (group_words p + 1) first others (omega (arith, size, sizes.0)) (omega (arith, size, sizes.1)) (λ more. size ∙ sizes.3 (omega (arith, size', more)))

    changed_more : Changed p (at - m * 2) behind rest → Changed p at bs xs
    unfolding m chunk rest here behind chunk_bytes rest_bytes
    changed_more r =
        let m = group_words p in
        let g = group_here in
        let first = changed_group p at (take (m * 2 - at) bs) (take (m + 1) xs) in
        let others = changed_symbols p (at - m * 2) (drop (m * 2 - at) bs) (drop (m + 1) xs) in
        let is : changed_symbols p at bs xs ≡ first ++ others = changed_next p at bs xs h in
        record {
          size = ap length is ∙ length-append first others ∙ omega (arith, g.size, r.size, sizes.2);
          below = rw is (below_append p first others g.below r.below);
          back = ap (λ (ys : List ℕ). bytes_of 2 (words_back p ys)) is ∙ ap (bytes_of 2) (read_next first others g.size r.size) ∙ bytes_joined (opened first) (words_back p others) ∙ ap₂ ◌++◌ g.back r.back ∙ sym parted ∙ ap (part_replaced at bs) (sym bytes_next);
        }

  no_words : words_back p [] ≡ []
  unfolding words_back
  no_words = groups_none opened (group_words p + 1) (omega arith) [] refl

  pub changed_lem : (xs : List ℕ) (at : ℕ) (bs : List ℕ) → all_below 256 bs ≡ true → all_below p xs ≡ true → at + length bs ≤ length (words_back p xs) * 2 → Changed p at bs xs
  unfolding m rest behind
  changed_lem = by_groups_lem (group_words p + 1) (omega arith) (λ xs. (at : ℕ) (bs : List ℕ) → all_below 256 bs ≡ true → all_below p xs ≡ true → at + length bs ≤ length (words_back p xs) * 2 → Changed p at bs xs)
      (λ at bs bytes low fits.
      let empty = no_words in
      let none = nil_from_length bs (omega (arith, ap length empty, fits)) in
      record {
        size = ap length (changed_none p at bs);
        below = rw (changed_none p at bs) (below_none p);
        back = rw (changed_none p at bs, none) (sym (none_replaced at (bytes_of 2 (words_back p []))));
      })
      (λ xs h rest at bs bytes low fits.
      changed_more xs h at bs bytes low fits
      (rest (at - group_words p * 2) (drop (group_words p * 2 - at) bs) (below_drop 256 (group_words p * 2 - at) bs bytes) (below_drop p (group_words p + 1) xs low) (behind_fits xs h at bs bytes low fits)))
