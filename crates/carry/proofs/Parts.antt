-- One group after the other, as code goes through them.
use Rattle.std.proofs.lemmas.Grind.{div_ceil_times}
use Rattle.std.proofs.lemmas.List.{nil_from_length}
use mathlib.Core.Path.{◌≡◌, refl, sym, ap, ◌∙◌}
use mathlib.Core.List.{List, [], ◌++◌, append-nil, append_assoc}
use Prim.Native.Nat.{ℕ, ◌+◌, ◌-◌, ◌*◌, ◌/◌, ◌%◌, min, ◌≤◌, ◌<◌}
use native.Mathlib.Nat.{add-mul, one-mul, zero-mul, sub-zero, div-eq_of_lt-le}
use native.Mathlib.Omega.{arith}
use borrow.Author.Tests.{leb-true, leb-false}
use lib.Dec.{leb}
use lib.ListN.{length, take, drop, length-append, length-drop}
use lib.Seq.{take-nil, take_all, length-take-le, take-append-le, take-append-add}
use Rattle.lists.specs.Padded.{zeros, padded}
use Rattle.lists.proofs.Cases.{by_test}
use Rattle.lists.proofs.Fill.{Fills, fills_start, fills_part, fills_all, filled_length}
use Rattle.layout.specs.Width.{symbols_of, bytes_of}
use Rattle.layout.proofs.Readings.{symbols_append}
use Rattle.layout.proofs.Widths.{length_symbols, length_bytes}
use Rattle.carrying.specs.Groups.{by_groups, group_count}
use Rattle.carrying.specs.Masks.{closed, opened}
use Rattle.carrying.specs.Carrying.{group_words, word_count, words_of, carried_symbols, carried_words, words_back, word_bytes_back, words_length}
use Rattle.carrying.proofs.Carried.{length_closed, length_opened}
use Rattle.carrying.proofs.Changing.{bytes_joined}
use Rattle.carrying.proofs.Grouping.{groups_none, groups_joined, count_none, count_short, count_next}
use Rattle.carrying.proofs.Bytes.{evened, length_words}
use Rattle.carry.proofs.Words.{words_symbols}

-- how many groups there are, as the library counts them
pub groups_ceil : (m n : ℕ) → 0 < m → group_count m n ≡ n / m + min 1 (n % m)
unfolding group_count
groups_ceil m n some =
    let k = n / m + min 1 (n % m) in
    let (most, least) = div_ceil_times n m some in
    div-eq_of_lt-le {k = k} m {m = n + (m - 1)} (omega arith) (omega (arith, add-mul k 1 m, one-mul m))

-- a group, and those behind it
module _ (g : List ℕ → List ℕ) (m : ℕ) (xs ys : List ℕ) (some : 0 < length xs) (most : length xs ≤ m) (whole : 0 < length ys → length xs ≡ m) where
  pub groups_turn : bytes_of 2 (by_groups g m (xs ++ ys)) ≡ bytes_of 2 (g xs) ++ bytes_of 2 (by_groups g m ys)
  groups_turn = ap (bytes_of 2) (groups_joined g m xs ys some most whole) ∙ bytes_joined (g xs) (by_groups g m ys)

-- .. and nothing where no number is left
pub groups_end : (g : List ℕ → List ℕ) (m : ℕ) (xs : List ℕ) → 0 < m → length xs ≡ 0 → bytes_of 2 (by_groups g m xs) ≡ []
unfolding bytes_of
groups_end g m xs some none = ap (bytes_of 2) (groups_none g m some xs none)

-- the words of joined bytes
words_joined : (s t : List ℕ) → length s % 2 ≡ 0 → words_of (s ++ t) ≡ words_of s ++ words_of t
unfolding words_of padded word_count
words_joined s t even =
    let long = length-append s t in
    let pad : (length (s ++ t) / 2 + length (s ++ t) % 2) * 2 - length (s ++ t) ≡ (length t / 2 + length t % 2) * 2 - length t = omega arith in
    ap (symbols_of 2) (ap (λ (n : ℕ). (s ++ t) ++ zeros n) pad ∙ append_assoc s t _)
    ∙ symbols_append 2 (length s / 2) s (evened t) (omega arith) (omega arith)
    ∙ ap (λ (l : List ℕ). l ++ words_of t) (sym (words_symbols s even))

words_parted : (s t : List ℕ) → (0 < length t → length s % 2 ≡ 0) → words_of (s ++ t) ≡ words_of s ++ words_of t
unfolding word_count
words_parted s t even =
    by_test (leb (length t) 0)
    (λ e.
    let none = nil_from_length t (omega (arith, leb-true (length t) 0 e)) in
    let empty = nil_from_length (words_of t) (omega (arith, length_words t, leb-true (length t) 0 e)) in
    ap (λ (l : List ℕ). words_of (s ++ l)) none ∙ ap words_of (append-nil s) ∙ sym (ap (λ (l : List ℕ). words_of s ++ l) empty ∙ append-nil (words_of s)))
    (λ e. words_joined s t (even (leb-false (length t) 0 e)))

-- so many bytes of two parts: r is the smaller of n and the first one's length
pub take_joined : (n r k : ℕ) (xs ys : List ℕ) → length xs ≡ k → (n < k → r ≡ n) → (k ≤ n → r ≡ k) → take n (xs ++ ys) ≡ take r xs ++ take (n - r) ys
take_joined n r k xs ys size short long =
    by_test (leb k n)
    (λ e.
    let all : r ≡ k = long (leb-true k n e) in
    let more : n ≡ length xs + (n - r) = omega (arith, leb-true k n e) in
    ap (λ (x : ℕ). take x (xs ++ ys)) more ∙ take-append-add xs ys (n - r) ∙ ap (λ (l : List ℕ). l ++ take (n - r) ys) (sym (take_all r xs (omega arith))))
    (λ e.
    let part : r ≡ n = short (leb-false k n e) in
    let none : n - r ≡ 0 = omega arith in
    take-append-le n xs ys (omega (arith, leb-false k n e)) ∙ ap (λ (x : ℕ). take x xs) (sym part) ∙ sym (append-nil (take r xs)) ∙ ap (λ (x : ℕ). take r xs ++ take x ys) (sym none))

-- a part that is written, in a buffer that is filled just by the whole
module _ {start now : List ℕ} {to : ℕ} {whole : List ℕ} (xs todo : List ℕ) (f : Fills start now to (xs ++ todo) whole) (long : length whole ≡ length start) where
  pub room_left : to + length xs ≤ length start
  room_left =
      omega (
        arith,
        f.inside,
        length-take-le to now (omega (arith, f.inside, f.long)),
        ap length f.written,
        length-append (take to now) (xs ++ todo),
        length-append xs todo,
      )

  pub fills_turn : (k next : ℕ) → length xs ≡ k → next ≡ to + k → Fills start (take to now ++ (xs ++ drop (next - to) (drop to now))) next todo whole
  fills_turn k next size e =
      let same : next - to ≡ k = omega arith in
      rw (same, e) (fills_part xs k f size (omega (arith, room_left)))

pub fills_whole : {start now whole todo : List ℕ} {to : ℕ} → Fills start now to todo whole → todo ≡ [] → length whole ≡ length start → now ≡ whole
fills_whole {start} {now} {whole} {todo} {to} f none long =
    let g : Fills start now to [] whole = rw none at f in
    fills_all g (omega (arith, filled_length g))

-- the length of a part that ends at `next`
pub next_long : (s : List ℕ) (to k next : ℕ) → next ≡ to + k → next ≤ length s → length (take (next - to) (drop to s)) ≡ k
next_long s to k next e fits = length-take-le (next - to) (drop to s) (omega (arith, length-drop to s)) ∙ omega arith

-- bytes are carried group by group: those that are left come next, from the place of their group on
pub record Closing (p : ℕ) (start now whole rest : List ℕ) (i : ℕ) : Type 0 where
  pub at : ℕ
  pub place : 0 < length rest → at ≡ i * (group_words p * 2 + 2)
  pub written : Fills start now at (bytes_of 2 (by_groups (closed p) (group_words p) (words_of rest))) whole

pub closing_start : (p : ℕ) (start s : List ℕ) → Closing p start start (carried_words p s) s 0
unfolding carried_words carried_symbols
closing_start p start s = record { at = 0; place = λ more. sym (zero-mul (group_words p * 2 + 2)); written = fills_start start _ }

-- a group as it is carried, and those behind it
abbrev closed_group : ℕ → List ℕ → List ℕ
closed_group p chunk = bytes_of 2 (closed p (words_of chunk))

abbrev closed_groups : ℕ → List ℕ → List ℕ
closed_groups p rest = bytes_of 2 (by_groups (closed p) (group_words p) (words_of rest))

module _ {p : ℕ} {start now whole rest : List ℕ} {i : ℕ} (chunk rest' : List ℕ) (some : 0 < group_words p) (long : length whole ≡ length start) (t : Closing p start now whole rest i) (parts : rest ≡ chunk ++ rest') (size : length chunk ≡ min (group_words p * 2) (length rest)) (more : 0 < length rest) where
  closing_full : 0 < length rest' → length chunk ≡ group_words p * 2
  closing_full h = omega (arith, ap length parts, length-append chunk rest', size)

  pub closing_few : word_count (length chunk) ≤ group_words p
  unfolding word_count
  closing_few = omega (arith, size)

  closing_turn : closed_groups p rest ≡ closed_group p chunk ++ closed_groups p rest'
  unfolding word_count
  closing_turn =
      let words = length_words chunk in
      ap (λ (ws : List ℕ). bytes_of 2 (by_groups (closed p) (group_words p) ws)) (ap words_of parts ∙ words_parted chunk rest' (λ h. omega (arith, closing_full h)))
      ∙ groups_turn (closed p) (group_words p) (words_of chunk) (words_of rest') (omega (arith, size)) (omega (arith, closing_few)) (λ h. omega (arith, closing_full (omega (arith, length_words rest'))))

  closing_long : length (closed_group p chunk) ≡ word_count (length chunk) * 2 + 2
  closing_long = length_bytes 2 (closed p (words_of chunk)) ∙ omega (arith, length_closed p (words_of chunk), length_words chunk)

  closing_now : Fills start now (i * (group_words p * 2 + 2)) (closed_group p chunk ++ closed_groups p rest') whole
  closing_now = rw (closing_turn, t.place more) at t.written

  pub closing_room : i * (group_words p * 2 + 2) + (word_count (length chunk) * 2 + 2) ≤ length start
  closing_room = omega (arith, closing_long, room_left (closed_group p chunk) (closed_groups p rest') closing_now long)

  pub closing_next : (end : ℕ) → end ≡ i * (group_words p * 2 + 2) + (word_count (length chunk) * 2 + 2) → let to = i * (group_words p * 2 + 2) in Closing p start (take to now ++ (closed_group p chunk ++ drop (end - to) (drop to now))) whole rest' (i + 1)
  unfolding word_count
  closing_next end e = record {
    at = end;
    place = λ h. omega (arith, closing_full h, add-mul i 1 (group_words p * 2 + 2), one-mul (group_words p * 2 + 2));
    written = fills_turn (closed_group p chunk) (closed_groups p rest') closing_now long (word_count (length chunk) * 2 + 2) end closing_long e;
  }

pub closing_end : {p : ℕ} {start now whole rest : List ℕ} {i : ℕ} → 0 < group_words p → length whole ≡ length start → Closing p start now whole rest i → length rest ≡ 0 → now ≡ whole
unfolding word_count
closing_end {p} {rest = rest} some long t none =
    fills_whole t.written (groups_end (closed p) (group_words p) (words_of rest) some (omega (arith, length_words rest))) long

-- what is left at a group that is read: x bytes are still to be written, and `left` to be read; r and k are the group's
record Left (m x left k r : ℕ) : Type 0 where
  two : 2 ≤ k
  even : k % 2 ≡ 0
  inside : k ≤ left
  most : k ≤ m * 2 + 2
  full : k < left → (k ≡ m * 2 + 2) × (r ≡ m * 2)
  next : left - k ≡ (word_count (x - r) + group_count m (word_count (x - r))) * 2

module _ (m x left k r : ℕ) (some : 0 < m) (is : left ≡ (word_count x + group_count m (word_count x)) * 2) (more : 0 < left) (part : k ≡ min (m * 2 + 2) left) (room : r ≡ min x (k - 2)) where
  some_words : 0 < word_count x
  some_words =
      by_test (leb (word_count x) 0)
      (λ e.
      let none : word_count x ≡ 0 = omega (arith, leb-true (word_count x) 0 e) in
      absurd (omega (arith, is, ap (group_count m) none ∙ count_none m some)))
      (λ e. leb-false (word_count x) 0 e)

  last_left : word_count x ≤ m → Left m x left k r
  unfolding word_count
  last_left few =
      let one = count_short m (word_count x) some_words few in
      let none : x - r ≡ 0 = omega arith in
      record {
        two = omega arith;
        even = omega arith;
        inside = omega arith;
        most = omega arith;
        full = λ h. absurd (omega arith);
        next = rw (none, count_none m some) (omega arith);
      }

  whole_left : m < word_count x → Left m x left k r
  unfolding word_count
  whole_left many =
      let gone = count_next m (word_count x) some some_words in
      let again = count_next m (word_count x - m) some (omega arith) in
      let whole : r ≡ m * 2 = omega arith in
      let rest : word_count (x - r) ≡ word_count x - m = omega arith in
      record {
        two = omega arith;
        even = omega arith;
        inside = omega arith;
        most = omega arith;
        full = λ h. (omega arith, whole);
        next = rw rest (omega arith);
      }

  left_at : Left m x left k r
  left_at = by_test (leb (word_count x) m) (λ e. last_left (leb-true (word_count x) m e)) (λ e. whole_left (leb-false (word_count x) m e))

-- bytes are read group by group, as many as there is room for
pub record Opening (p : ℕ) (start now whole rest : List ℕ) (i : ℕ) : Type 0 where
  pub at : ℕ
  pub place : 0 < length rest → at ≡ i * (group_words p * 2)
  pub left : length rest ≡ words_length p (length start - at)
  pub written : Fills start now at (take (length start - at) (bytes_of 2 (by_groups opened (group_words p + 1) (symbols_of 2 rest)))) whole

pub opening_start : (p : ℕ) (start s : List ℕ) → length s ≡ words_length p (length start) → Opening p start start (word_bytes_back p (length start) s) s 0
unfolding word_bytes_back words_back
opening_start p start s long = record { at = 0; place = λ more. sym (zero-mul (group_words p * 2)); left = rw sub-zero long; written = rw sub-zero (fills_start start _) }

-- a group as it is read, and those behind it
abbrev opened_group : List ℕ → List ℕ
opened_group chunk = bytes_of 2 (opened (symbols_of 2 chunk))

abbrev opened_groups : ℕ → List ℕ → List ℕ
opened_groups p rest = bytes_of 2 (by_groups opened (group_words p + 1) (symbols_of 2 rest))

module _ {p : ℕ} {start now whole rest : List ℕ} {i : ℕ} (chunk rest' : List ℕ) (some : 0 < group_words p) (t : Opening p start now whole rest i) (parts : rest ≡ chunk ++ rest') (size : length chunk ≡ min (group_words p * 2 + 2) (length rest)) (more : 0 < length rest) where
  opening_here : (r : ℕ) → r ≡ min (length start - t.at) (length chunk - 2) → Left (group_words p) (length start - t.at) (length rest) (length chunk) r
  unfolding words_length
  opening_here r = left_at (group_words p) (length start - t.at) (length rest) (length chunk) r some t.left more size

  pub opening_part : (2 ≤ length chunk) × (length chunk % 2 ≡ 0) × (length chunk ≤ group_words p * 2 + 2) × (i * (group_words p * 2) ≤ length start)
  opening_part = let here = opening_here _ refl in (here.two, here.even, here.most, omega (arith, t.place more, t.written.inside))

  left_parts : length rest - length chunk ≡ length rest'
  left_parts = omega (arith, ap length parts, length-append chunk rest')

  opening_turn : opened_groups p rest ≡ opened_group chunk ++ opened_groups p rest'
  opening_turn =
      let words = length_symbols 2 chunk in
      let here = opening_here _ refl in
      ap (λ (xs : List ℕ). bytes_of 2 (by_groups opened (group_words p + 1) xs)) (ap (symbols_of 2) parts ∙ symbols_append 2 (length chunk / 2) chunk rest' (omega arith) (omega (arith, here.even)))
      ∙ groups_turn opened (group_words p + 1) (symbols_of 2 chunk) (symbols_of 2 rest') (omega (arith, here.two)) (omega (arith, here.most)) (λ h. omega (arith, (here.full (omega (arith, left_parts, length_symbols 2 rest'))).0))

  opening_long : length (opened_group chunk) ≡ length chunk - 2
  opening_long =
      let xs = symbols_of 2 chunk in
      let words = length_symbols 2 chunk in
      let here = opening_here _ refl in
      length_bytes 2 (opened xs) ∙ omega (arith, length_opened xs (omega (arith, here.two)), here.even)

  -- r bytes of the group
  module _ (long : length whole ≡ length start) (r : ℕ) (room : i * (group_words p * 2) + r ≡ min (length start) (i * (group_words p * 2) + (length chunk - 2))) where
    opening_room : r ≡ min (length start - t.at) (length chunk - 2)
    opening_room = omega (arith, t.place more, t.written.inside)

    opening_now : Fills start now (i * (group_words p * 2)) (take r (opened_group chunk) ++ take (length start - (i * (group_words p * 2) + r)) (opened_groups p rest')) whole
    opening_now =
        let left : length start - t.at - r ≡ length start - (t.at + r) = omega arith in
        rw (opening_turn, take_joined (length start - t.at) r (length chunk - 2) (opened_group chunk) (opened_groups p rest') opening_long (λ h. omega (arith, opening_room)) (λ h. omega (arith, opening_room)), left, t.place more) at t.written

    pub opening_next : (end : ℕ) → end ≡ i * (group_words p * 2) + r → let to = i * (group_words p * 2) in Opening p start (take to now ++ (take r (opened_group chunk) ++ drop (end - to) (drop to now))) whole rest' (i + 1)
    unfolding words_length
    opening_next end e =
        let here = opening_here r opening_room in
        let past : length start - t.at - r ≡ length start - end = omega (arith, t.place more) in record {
          at = end;
          place = λ h. omega (arith, (here.full (omega (arith, left_parts))).1, add-mul i 1 (group_words p * 2), one-mul (group_words p * 2));
          left = sym left_parts ∙ rw past at here.next;
          written = rw (← e) at (fills_turn (take r (opened_group chunk)) (take (length start - (i * (group_words p * 2) + r)) (opened_groups p rest')) opening_now long r end (length-take-le r (opened_group chunk) (omega (arith, opening_long, opening_room))) e);
        }

pub opening_end : {p : ℕ} {start now whole rest : List ℕ} {i : ℕ} → length whole ≡ length start → Opening p start now whole rest i → length rest ≡ 0 → now ≡ whole
opening_end {p} {start = start} {rest = rest} long t none =
    let end = groups_end opened (group_words p + 1) (symbols_of 2 rest) (omega arith) (length_symbols 2 rest ∙ omega (arith, none)) in
    fills_whole t.written (ap (take (length start - t.at)) end ∙ take-nil (length start - t.at)) long
