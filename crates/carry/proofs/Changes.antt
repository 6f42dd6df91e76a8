-- Bytes that are changed where symbols carry them, as code goes through the groups.
use mathlib.Core.Path.{◌≡◌, refl, sym, ap, ap₂, ◌∙◌}
use mathlib.Core.Bool.{true, ◌&&◌}
use mathlib.Core.List.{List, [], ◌∷◌, ◌++◌, append_assoc}
use Prim.Native.Nat.{ℕ, ◌+◌, ◌-◌, ◌*◌, ◌/◌, ◌%◌, min, ◌≤◌, ◌<◌}
use native.Mathlib.Nat.{div-add-mod', mod-lt, add-mul, one-mul, mul-one, mul_assoc, mul-le-mul, le_refl}
use native.Mathlib.Omega.{arith}
use borrow.Author.Tests.{lt-leb, leb-true, leb-false}
use lib.Bits.{bit_xor}
use lib.Dec.{leb, ltb}
use lib.ListN.{length, get_or, take, drop, length-append, length-drop, take-append-drop, drop_of_length-le}
use lib.Seq.{length-take-le, take_all, take_at, drop_at, drop-drop}
use Rattle.lists.specs.Numbers.{all_below}
use Rattle.lists.proofs.Cases.{by_test}
use Rattle.lists.proofs.Front.{drop_next}
use Rattle.lists.proofs.Numbers.{below_take, below_drop}
use Rattle.field.specs.Fields.{size_of}
use Rattle.field.specs.Widths.{bytes_for}
use Rattle.layout.specs.Width.{symbols_of, bytes_of}
use Rattle.layout.proofs.LaneParts.{bytes_part, bytes_replaced}
use Rattle.layout.proofs.Widths.{length_symbols, length_bytes, symbols_bytes}
use Rattle.layout.proofs.Readings.{bytes_symbols}
use Rattle.carrying.specs.Masks.{masked, covered, opened}
use Rattle.carrying.specs.Carrying.{group_words, words_back, words_length}
use Rattle.carrying.specs.Changing.{part_replaced, mask_after, changed_group, changed_symbols}
use Rattle.carrying.proofs.Bytes.{length_read, words_enough}
use Rattle.carrying.proofs.Carried.{Carrier, is_carrier, length_opened}
use Rattle.carrying.proofs.Replaced.{length_replaced}
use Rattle.carrying.proofs.Changing.{changed_next, group_changed, symbols_kept, groups_before, chunk_long, words_long, words_behind}
use Rattle.carry.specs.declared.prime.WordPrime.{WordPrime}
use Rattle.carry.proofs.Accepts.{some_prime}

-- the bytes of a group, and with a part replaced
pub opened_long : (g : List ℕ) → length g % 2 ≡ 0 → 2 ≤ length g → length (bytes_of 2 (opened (symbols_of 2 g))) + 2 ≡ length g
opened_long g even some =
    let xs = symbols_of 2 g in
    let count = length_symbols 2 g in omega (arith, length_bytes 2 (opened xs), count, length_opened xs (omega (arith, count)))

pub changed_long : (at : ℕ) (part g : List ℕ) → length g % 2 ≡ 0 → at + length part + 2 ≤ length g → length (part_replaced at part (bytes_of 2 (opened (symbols_of 2 g)))) + 2 ≡ length g
changed_long at part g even fits =
    let long = opened_long g even (omega arith) in
    let all = bytes_of 2 (opened (symbols_of 2 g)) in omega (arith, long, length_replaced at part all (omega (arith, long)))

-- the front of a list, by its own length
pub chunk_again : (n : ℕ) (xs : List ℕ) → (take (length (take n xs)) xs ≡ take n xs) × (drop (length (take n xs)) xs ≡ drop n xs)
chunk_again n xs =
    let whole = sym (take-append-drop n xs) in (
      ap (take (length (take n xs))) whole ∙ take_at (take n xs) (drop n xs) (length (take n xs)) refl,
      ap (drop (length (take n xs))) whole ∙ drop_at (take n xs) (drop n xs) (length (take n xs)) refl,
    )

-- one word more is a symbol under a mask
pub serves_next : (p c : ℕ) (words : List ℕ) (i : ℕ) → i < length words → all_below p (masked c (drop i words)) ≡ (ltb (bit_xor (get_or words i 0) c) p && all_below p (masked c (drop (i + 1) words)))
unfolding masked all_below
serves_next p c words i h = ap (λ (ws : List ℕ). all_below p (masked c ws)) (drop_next words i 0 h)

-- a group by its first symbol
pub changed_is : (p at : ℕ) (part xs : List ℕ) → 0 < length xs → let ws = symbols_of 2 (part_replaced at part (bytes_of 2 (opened xs))) in changed_group p at part xs ≡ covered (mask_after p (get_or xs 0 0) ws) ws
unfolding changed_group opened
changed_is p at part [] h = absurd (omega arith)
changed_is p at part (c ∷ xs) h = refl

-- what of a part lies before the end of a group, and behind it
pub cut_at : (q done n : ℕ) (bs : List ℕ) → done ≤ length bs → n ≡ min (length bs) (done + q) → (take q (drop done bs) ≡ take (n - done) (drop done bs)) × (drop q (drop done bs) ≡ drop n bs)
cut_at q done n bs most is =
    by_test (leb (done + q) (length bs))
    (λ e.
    let same : n ≡ done + q = omega (arith, leb-true (done + q) (length bs) e) in
    let size : n - done ≡ q = omega arith in
    (ap (λ (x : ℕ). take x (drop done bs)) (sym size), drop-drop q done bs ∙ ap (λ (x : ℕ). drop x bs) (sym same)))
    (λ e.
    let less = leb-false (done + q) (length bs) e in
    let behind = length-drop done bs in
    (take_all q (drop done bs) (omega (arith, behind)) ∙ sym (take_all (n - done) (drop done bs) (omega (arith, behind))), drop_of_length-le (drop done bs) {i = q} (omega (arith, behind)) ∙ sym (drop_of_length-le bs {i = n} (omega arith))))

-- `front` holds groups as they are afterwards, `left` those that are as they were; `done` bytes of the part are written, the others begin at `place` of `left`
pub record Changing (p at : ℕ) (start now bytes : List ℕ) (i place done : ℕ) : Type 0 where
  pub front : List ℕ
  pub left : List ℕ
  pub now_is : now ≡ bytes_of 2 (front ++ left)
  pub whole : changed_symbols p at bytes (symbols_of 2 start) ≡ front ++ changed_symbols p place (drop done bytes) left
  pub low : all_below p left ≡ true
  pub inside : place < group_words p * 2
  pub most : done ≤ length bytes
  pub at_group : done < length bytes → length front ≡ i * (group_words p + 1)
  pub room : done < length bytes → place + (length bytes - done) ≤ length (words_back p left) * 2

-- the first group that is changed
pub changing_start : (p : ℕ) → 0 < group_words p → (at : ℕ) (start bytes : List ℕ) → length start % 2 ≡ 0 → all_below 256 start ≡ true → all_below p (symbols_of 2 start) ≡ true → at + length bytes ≤ length (words_back p (symbols_of 2 start)) * 2 →
    Changing p at start start bytes (at / (group_words p * 2)) (at % (group_words p * 2)) 0
changing_start p some at start bytes even low good fits =
    let m = group_words p in
    let xs = symbols_of 2 start in
    let i = at / (m * 2) in
    let r = at % (m * 2) in
    let place : at ≡ i * (m * 2) + r = sym (div-add-mod' at (m * 2)) in
    let twice : i * (m * 2) ≡ i * m * 2 = sym (mul_assoc i m 2) in
    let less : r < m * 2 = mod-lt at (omega arith) in
    record {
      front = take (i * (m + 1)) xs;
      left = drop (i * (m + 1)) xs;
      now_is = sym (ap (bytes_of 2) (take-append-drop (i * (m + 1)) xs) ∙ bytes_symbols 2 (length start / 2) start (omega arith) (omega arith) low);
      whole = ap (λ (x : ℕ). changed_symbols p x bytes xs) place ∙ groups_before p i r bytes xs good;
      low = below_drop p (i * (m + 1)) xs good;
      inside = less;
      most = omega arith;
      at_group = λ more. length-take-le (i * (m + 1)) xs (words_behind p i xs (omega (arith, fits, place, twice))).0;
      room = λ more. omega (arith, fits, place, twice, (words_behind p i xs (omega (arith, fits, place, twice))).1);
    }

module _ {p at : ℕ} {start now bytes : List ℕ} {i place done : ℕ} (carrier : Carrier p) (t : Changing p at start now bytes i place done) (low : all_below 256 bytes ≡ true) (more : done < length bytes) where
  abbrev m : ℕ
  m = group_words p

  abbrev chunk : List ℕ
  chunk = take (m + 1) t.left

  abbrev rest : List ℕ
  rest = drop (m + 1) t.left

  left_some : 0 < length t.left
  left_some = by_test (leb (length t.left) 0) (λ e. absurd (omega (arith, t.room more, (words_long p t.left).0 (omega (arith, leb-true (length t.left) 0 e))))) (λ e. leb-false (length t.left) 0 e)

  sizes : (0 < length chunk) × (length chunk ≤ m + 1) × (length chunk + length rest ≡ length t.left) × (0 < length rest → length chunk ≡ m + 1)
  sizes = chunk_long m t.left left_some

  words : length (words_back p t.left) + 1 ≡ length chunk + length (words_back p rest)
  words = (words_long p t.left).1 left_some

  no_words : length rest ≡ 0 → length (words_back p rest) ≡ 0
  no_words = (words_long p rest).0

  inside : place < m * 2
  inside = t.inside

  at_place : length t.front ≡ i * (m + 1)
  at_place = t.at_group more

  -- the place of the group's bytes, and its end
  from_is : i * (m * 2 + 2) ≡ length t.front * 2
  from_is = let same = t.at_group more in omega (arith, ap (λ (n : ℕ). n * 2) same, mul_assoc i (group_words p + 1) 2, ap (λ (n : ℕ). i * n) (double (group_words p)))
    where
      double : (n : ℕ) → (n + 1) * 2 ≡ n * 2 + 2
      double n = omega arith

  now_long : length now ≡ (length t.front + length t.left) * 2
  now_long = ap length t.now_is ∙ length_bytes 2 (t.front ++ t.left) ∙ ap (λ (n : ℕ). n * 2) (length-append t.front t.left)

  pub from_fits : (i * (m * 2 + 2) ≤ length now) × (i ≤ length now)
  from_fits =
      (omega (arith, from_is, now_long), omega (arith, at_place, now_long, mul-le-mul {n₁ = i} {m₁ = 1} {n₂ = i} {m₂ = m + 1} (le_refl i) (omega arith), mul-one i))

  pub chunk_most : length chunk ≤ m + 1
  chunk_most = sizes.1

  -- the group's bytes
  module _ (end : ℕ) (end_is : end ≡ min (length now) (i * (m * 2 + 2) + (m * 2 + 2))) where
    abbrev from : ℕ
    from = i * (m * 2 + 2)

    pub group_long : (from ≤ end) × (end ≤ length now) × (end - from ≡ length chunk * 2)
    group_long =
        by_test (leb (length rest) 0)
        (λ e.
        let none : length rest ≡ 0 = omega (arith, leb-true (length rest) 0 e) in
        (omega (arith, end_is, from_is, now_long), omega (arith, end_is), omega (arith, end_is, from_is, now_long, sizes.1, sizes.2, none)))
        (λ e.
        let full = sizes.3 (leb-false (length rest) 0 e) in
        (omega (arith, end_is, from_is, now_long), omega (arith, end_is), omega (arith, end_is, from_is, now_long, sizes.2, full)))

    pub group_is : take (end - from) (drop from now) ≡ bytes_of 2 chunk
    group_is =
        ap₂ (λ (x y : ℕ). take x (drop y now)) group_long.2 from_is
        ∙ ap (λ (s : List ℕ). take (length chunk * 2) (drop (length t.front * 2) s)) t.now_is
        ∙ bytes_part 2 (length t.front) (length chunk) (t.front ++ t.left)
        ∙ ap (λ (s : List ℕ). bytes_of 2 (take (length chunk) s)) (drop_at t.front t.left (length t.front) refl)
        ∙ ap (bytes_of 2) (chunk_again (m + 1) t.left).0

    -- what of the part lies in it
    module _ (next : ℕ) (next_is : next ≡ min (length bytes) (done + (m * 2 - place))) where
      abbrev part : List ℕ
      part = take (next - done) (drop done bytes)

      part_long : length part ≡ next - done
      part_long = length-take-le (next - done) (drop done bytes) (omega (arith, length-drop done bytes, next_is))

      pub part_fits : place + length part + 2 ≤ length chunk * 2
      part_fits =
          by_test (leb (length rest) 0)
          (λ e. omega (arith, part_long, next_is, t.room more, words, no_words (omega (arith, leb-true (length rest) 0 e))))
          (λ e. omega (arith, part_long, next_is, inside, sizes.3 (leb-false (length rest) 0 e)))

      abbrev changed : List ℕ
      changed = changed_group p place part chunk

      changed_size : length changed ≡ length chunk
      changed_size =
          (group_changed p carrier place (take (next - done) (drop done bytes)) (below_take 256 (next - done) (drop done bytes) (below_drop 256 done bytes low)) (take (group_words p + 1) t.left) sizes.0 sizes.1 (below_take p (group_words p + 1) t.left t.low) part_fits).size

      written : take from now ++ (bytes_of 2 changed ++ drop (end - from) (drop from now)) ≡ bytes_of 2 ((t.front ++ changed) ++ rest)
      written =
          let ys = changed in
          ap₂ (λ (x y : ℕ). take x now ++ (bytes_of 2 ys ++ drop y (drop x now))) from_is group_long.2
          ∙ ap (λ (s : List ℕ). take (length t.front * 2) s ++ (bytes_of 2 ys ++ drop (length chunk * 2) (drop (length t.front * 2) s))) t.now_is
          ∙ bytes_replaced 2 (length t.front) (length chunk) ys (t.front ++ t.left)
          ∙ ap₂ (λ (x y : List ℕ). bytes_of 2 (x ++ (ys ++ drop (length chunk) y))) (take_at t.front t.left (length t.front) refl) (drop_at t.front t.left (length t.front) refl)
          ∙ ap (λ (s : List ℕ). bytes_of 2 (t.front ++ (ys ++ s))) (chunk_again (m + 1) t.left).1
          ∙ ap (bytes_of 2) (sym (append_assoc t.front ys (drop (m + 1) t.left)))

      after : changed_symbols p at bytes (symbols_of 2 start) ≡ (t.front ++ changed) ++ changed_symbols p 0 (drop next bytes) rest
      after =
          let (first, others) = cut_at (group_words p * 2 - place) done next bytes t.most next_is in
          let none : place - group_words p * 2 ≡ 0 = omega (arith, t.inside) in
          t.whole
          ∙ ap (λ (l : List ℕ). t.front ++ l) (changed_next p place (drop done bytes) t.left left_some)
          ∙ ap₂ (λ (x y : List ℕ). t.front ++ (changed_group p place x (take (group_words p + 1) t.left) ++ changed_symbols p (place - group_words p * 2) y (drop (group_words p + 1) t.left))) first others
          ∙ ap (λ (x : ℕ). t.front ++ (changed_group p place (take (next - done) (drop done bytes)) (take (group_words p + 1) t.left) ++ changed_symbols p x (drop next bytes) (drop (group_words p + 1) t.left))) none
          ∙ sym (append_assoc t.front (changed_group p place (take (next - done) (drop done bytes)) (take (group_words p + 1) t.left)) (changed_symbols p 0 (drop next bytes) (drop (group_words p + 1) t.left)))

      room_left : next < length bytes → 0 + (length bytes - next) ≤ length (words_back p rest) * 2
      room_left h = omega (arith, next_is, t.room more, words, sizes.1, inside)

      next_group : next < length bytes → length (t.front ++ changed) ≡ (i + 1) * (m + 1)
      next_group h =
          let full = sizes.3 (by_test (leb (length rest) 0) (λ e. absurd (omega (arith, room_left h, no_words (omega (arith, leb-true (length rest) 0 e))))) (λ e. leb-false (length rest) 0 e)) in
          length-append t.front changed ∙ omega (arith, at_place, changed_size, full, add-mul i 1 (m + 1), one-mul (m + 1))

      below : all_below p rest ≡ true
      below = below_drop p (m + 1) t.left t.low

      changing_next : Changing p at start (take from now ++ (bytes_of 2 changed ++ drop (end - from) (drop from now))) bytes (i + 1) 0 next
      changing_next = record {
        front = t.front ++ changed;
        left = rest;
        now_is = written;
        whole = after;
        low = below;
        inside = omega (arith, t.inside);
        most = omega (arith, next_is);
        at_group = next_group;
        room = room_left;
      }

      pub changing_step : (x : List ℕ) → x ≡ bytes_of 2 (changed_group p place part (symbols_of 2 (take (end - from) (drop from now)))) → Changing p at start (take from now ++ (x ++ drop (end - from) (drop from now))) bytes (i + 1) 0 next
      changing_step x e =
          rw (e ∙ ap (λ (s : List ℕ). bytes_of 2 (changed_group p place part (symbols_of 2 s))) group_is ∙ ap (λ (xs : List ℕ). bytes_of 2 (changed_group p place part xs)) (symbols_bytes 2 chunk (omega arith))) changing_next

-- all bytes are written
pub changing_end : {p at : ℕ} {start now bytes : List ℕ} {i place done : ℕ} → Changing p at start now bytes i place done → length bytes ≤ done → now ≡ bytes_of 2 (changed_symbols p at bytes (symbols_of 2 start))
changing_end {p} {bytes = bytes} {place = place} {done = done} t none =
    t.now_is
    ∙ ap (bytes_of 2) (sym (t.whole ∙ ap (λ (l : List ℕ). t.front ++ changed_symbols p place l t.left) (drop_of_length-le bytes {i = done} none) ∙ ap (λ (l : List ℕ). t.front ++ l) (symbols_kept p t.left place t.low)))

-- what a prime that carries asks of the symbols of n bytes, for a part of these
pub prime_symbols : (prime : WordPrime) (s : List ℕ) → all_below (size_of prime.p) (symbols_of (bytes_for prime.p) s) ≡ true → all_below prime.p (symbols_of 2 s) ≡ true
unfolding size_of bytes_for
prime_symbols prime s good = rw (some_prime prime, lt-leb prime.p 256 (omega (arith, prime.large))) at good

pub words_fit : (prime : WordPrime) (n at count : ℕ) (s : List ℕ) → length s ≡ words_length prime.p n → at + count ≤ n → all_below prime.p (symbols_of 2 s) ≡ true →
    (length s % 2 ≡ 0) × (all_below prime.p (symbols_of 2 s) ≡ true) × (at + count ≤ length (words_back prime.p (symbols_of 2 s)) * 2)
unfolding words_length
words_fit prime n at count s long inside good =
    let carrier = is_carrier prime.p prime.large prime.word in
    (omega (arith, long), good, omega (arith, length_bytes 2 (words_back prime.p (symbols_of 2 s)), length_read prime.p carrier n s long, words_enough n))
