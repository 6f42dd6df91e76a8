-- Bytes as words, and words as bytes, one by one.
use mathlib.Core.Path.{◌≡◌, sym, ap, ap₂, ◌∙◌}
use mathlib.Core.List.{List, [], ◌∷◌, ◌++◌, append-nil}
use Prim.Native.Nat.{ℕ, zero, suc, ◌+◌, ◌-◌, ◌*◌, ◌/◌, ◌%◌, ◌≤◌, ◌<◌}
use native.Mathlib.Numerals.{add-one}
use native.Mathlib.Omega.{arith}
use lib.Bits.{bit_xor, xor_shr, xor_mod}
use lib.Dec.{eqb}
use lib.ListN.{length, get_or, take, drop, length-append, drop_of_length-le}
use lib.Seq.{take_at, drop_at}
use borrow.Author.Tests.{eqb-true, eqb-false}
use Rattle.lists.specs.Padded.{zeros, padded}
use Rattle.lists.proofs.Cases.{by_test}
use Rattle.lists.proofs.Padding.{get_or_padded, padded_past}
use Rattle.layout.specs.Width.{symbol_at, symbols_of, symbol_bytes, bytes_of}
use Rattle.layout.proofs.Widths.{get_or_symbols, length_symbols}
use Rattle.layout.proofs.Readings.{symbol_pair, get_or_bytes}
use Rattle.carrying.specs.Masks.{opened}
use Rattle.carrying.specs.Carrying.{word_count, words_of}
use Rattle.carrying.proofs.Carried.{masked_at, length_opened}
use Rattle.carrying.proofs.Bytes.{evened, length_evened, words_even}

-- word i of bytes
evened_word : (s : List ℕ) (i : ℕ) → i < word_count (length s) → get_or (words_of s) i 0 ≡ get_or (evened s) (i * 2) 0 * 256 + get_or (evened s) (i * 2 + 1) 0
unfolding words_of
evened_word s i h =
    let long = length_evened s in
    get_or_symbols 2 (evened s) i (omega arith) ∙ symbol_pair (evened s) i (omega arith)

pub word_at : (s : List ℕ) (i : ℕ) → i < length s / 2 → get_or (words_of s) i 0 ≡ symbol_at 2 s i
unfolding word_count
word_at s i h =
    let n = word_count (length s) * 2 in
    evened_word s i (omega arith)
    ∙ ap₂ (λ (x y : ℕ). x * 256 + y) (get_or_padded n s (i * 2) (omega arith)) (get_or_padded n s (i * 2 + 1) (omega arith))
    ∙ sym (symbol_pair s i (omega arith))

-- .. and the last of an odd number
pub last_word : (s : List ℕ) → (length s % 2 ≡ 0 → ⊥) → get_or (words_of s) (length s / 2) 0 ≡ get_or s (length s / 2 * 2) 0 * 256
unfolding word_count
last_word s odd =
    let n = word_count (length s) * 2 in
    let i = length s / 2 in
    evened_word s i (omega arith)
    ∙ ap₂ (λ (x y : ℕ). x * 256 + y) (get_or_padded n s (i * 2) (omega arith)) (padded_past n s (i * 2 + 1) (omega arith))
    ∙ omega arith

-- whole words are symbols of two bytes
pub words_symbols : (s : List ℕ) → length s % 2 ≡ 0 → words_of s ≡ symbols_of 2 s
unfolding words_of padded zeros
words_symbols s even = ap (symbols_of 2) (ap (λ (n : ℕ). padded n s) (words_even (length s) even) ∙ padded_same s)
  where
    padded_same : (s : List ℕ) → padded (length s) s ≡ s
    padded_same s =
        let none : length s - length s ≡ 0 = omega arith in
        ap (λ (n : ℕ). s ++ zeros n) none ∙ append-nil s

-- a word of an opened group
opened_at : (xs : List ℕ) (i : ℕ) → i + 1 < length xs → get_or (opened xs) i 0 ≡ bit_xor (get_or xs (i + 1) 0) (get_or xs 0 0)
unfolding opened
opened_at [] i h = absurd (omega arith)
opened_at (c ∷ ws) i h = rw add-one (masked_at c ws i (omega arith))

-- the bytes of a word under a mask are its bytes under those of the mask
masked_bytes : (a b d e : ℕ) → b < 256 → e < 256 → symbol_bytes 2 (bit_xor (a * 256 + b) (d * 256 + e)) ≡ bit_xor a d ∷ bit_xor b e ∷ []
unfolding symbol_bytes
masked_bytes a b d e hb he =
    let x = a * 256 + b in
    let y = d * 256 + e in
    let first : x / 256 ≡ a = omega arith in
    let second : y / 256 ≡ d = omega arith in
    let first_low : x % 256 ≡ b = omega arith in
    let second_low : y % 256 ≡ e = omega arith in
    ap₂ (λ (u v : ℕ). u ∷ v ∷ []) (xor_shr x y 8 ∙ ap₂ bit_xor first second) (xor_mod x y 8 ∙ ap₂ bit_xor first_low second_low)

-- .. so a byte of an opened group is one of the group's under one of its first two
module _ (s : List ℕ) (low : (i : ℕ) → get_or s i 0 < 256) where
  opened_word : (q : ℕ) → q * 2 + 4 ≤ length s → symbol_bytes 2 (get_or (opened (symbols_of 2 s)) q 0) ≡ bit_xor (get_or s (q * 2 + 2) 0) (get_or s 0 0) ∷ bit_xor (get_or s (q * 2 + 3) 0) (get_or s 1 0) ∷ []
  opened_word q h =
      let count = length_symbols 2 s in
      let next : (q + 1) * 2 ≡ q * 2 + 2 = omega arith in
      let last : (q + 1) * 2 + 1 ≡ q * 2 + 3 = omega arith in
      let word : get_or (symbols_of 2 s) (q + 1) 0 ≡ get_or s (q * 2 + 2) 0 * 256 + get_or s (q * 2 + 3) 0 =
      get_or_symbols 2 s (q + 1) (omega arith)
      ∙ symbol_pair s (q + 1) (omega arith)
      ∙ ap₂ (λ (x y : ℕ). get_or s x 0 * 256 + get_or s y 0) next last in
      let mask : get_or (symbols_of 2 s) 0 0 ≡ get_or s 0 0 * 256 + get_or s 1 0 = get_or_symbols 2 s 0 (omega arith) ∙ symbol_pair s 0 (omega arith) in
      ap (symbol_bytes 2) (opened_at (symbols_of 2 s) q (omega arith) ∙ ap₂ bit_xor word mask)
      ∙ masked_bytes (get_or s (q * 2 + 2) 0) (get_or s (q * 2 + 3) 0) (get_or s 0 0) (get_or s 1 0) (low _) (low _)

  of_two : (q v : ℕ) → v < 2 → get_or (bit_xor (get_or s (q * 2 + 2) 0) (get_or s 0 0) ∷ bit_xor (get_or s (q * 2 + 3) 0) (get_or s 1 0) ∷ []) v 0 ≡ bit_xor (get_or s (q * 2 + v + 2) 0) (get_or s v 0)
  of_two q zero h = let e : q * 2 + 2 ≡ q * 2 + 0 + 2 = omega arith in ap (λ (x : ℕ). bit_xor (get_or s x 0) (get_or s 0 0)) e
  of_two q (suc zero) h = let e : q * 2 + 3 ≡ q * 2 + 1 + 2 = omega arith in ap (λ (x : ℕ). bit_xor (get_or s x 0) (get_or s 1 0)) e
  of_two q (suc (suc v)) h = absurd (omega arith)

  pub opened_byte : (i : ℕ) → length s % 2 ≡ 0 → i + 2 < length s → get_or (bytes_of 2 (opened (symbols_of 2 s))) i 0 ≡ bit_xor (get_or s (i + 2) 0) (get_or s (i % 2) 0)
  opened_byte i even h =
      let q = i / 2 in
      let xs = symbols_of 2 s in
      let place : i ≡ q * 2 + i % 2 = omega arith in
      let more : q < length (opened xs) = omega (arith, length_symbols 2 s, length_opened xs (omega (arith, length_symbols 2 s))) in
      ap (λ (x : ℕ). get_or (bytes_of 2 (opened xs)) x 0) place
      ∙ get_or_bytes 2 (opened xs) q (i % 2) more (omega arith)
      ∙ ap (λ (l : List ℕ). get_or l (i % 2) 0) (opened_word q (omega arith))
      ∙ of_two q (i % 2) (omega arith)
      ∙ ap (λ (x : ℕ). bit_xor (get_or s (x + 2) 0) (get_or s (i % 2) 0)) (sym place)

-- the byte of a mask of two bytes by the parity of a place
pub mask_at : (s : List ℕ) → (i b : ℕ) → (i % 2 ≡ 0 → b ≡ get_or s 0 0) → (i % 2 ≡ 1 → b ≡ get_or s 1 0) → b ≡ get_or s (i % 2) 0
mask_at s i b even odd =
    by_test (eqb (i % 2) 0)
    (λ t. let e = eqb-true _ _ t in even e ∙ ap (λ (x : ℕ). get_or s x 0) (sym e))
    (λ t. let e : i % 2 ≡ 1 = omega (arith, eqb-false _ _ t) in odd e ∙ ap (λ (x : ℕ). get_or s x 0) (sym e))

-- two bytes in front of others, as code writes them
pub written_behind : (a b out : List ℕ) → length a ≡ 2 → take 2 (a ++ drop 2 out) ++ (b ++ drop (length (a ++ drop 2 out) - 2) (drop 2 (a ++ drop 2 out))) ≡ a ++ b
written_behind a b out two =
    let rest : drop 2 (a ++ drop 2 out) ≡ drop 2 out = drop_at a (drop 2 out) 2 two in
    let none : drop (length (a ++ drop 2 out) - 2) (drop 2 (a ++ drop 2 out)) ≡ [] = drop_of_length-le (drop 2 (a ++ drop 2 out)) {i = length (a ++ drop 2 out) - 2} (omega (arith, ap length rest, length-append a (drop 2 out))) in
    ap₂ (λ (x y : List ℕ). x ++ (b ++ y)) (take_at a (drop 2 out) 2 two) none ∙ ap (λ (l : List ℕ). a ++ l) (append-nil b)
