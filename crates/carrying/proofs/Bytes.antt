-- Bytes in symbols of two bytes: read again, symbols below p, and how many.
use mathlib.Core.Path.{◌≡◌, refl, ap, ◌∙◌}
use mathlib.Core.Bool.{true}
use mathlib.Core.List.{List}
use Prim.Native.Nat.{ℕ, ◌+◌, ◌*◌, ◌%◌, ◌≤◌}
use native.Mathlib.Omega.{arith}
use lib.ListN.{length, take}
use lib.Seq.{length-take-le}
use Rattle.lists.specs.Numbers.{all_below}
use Rattle.lists.specs.Padded.{padded}
use Rattle.lists.proofs.Padding.{length_padded, take_padded, below_padded}
use Rattle.layout.specs.Width.{symbols_of, bytes_of}
use Rattle.layout.proofs.Widths.{length_symbols, length_bytes, symbols_bytes}
use Rattle.layout.proofs.Readings.{count_symbols, symbols_below, bytes_symbols}
use Rattle.carrying.specs.Groups.{group_count}
use Rattle.carrying.specs.Carrying.{group_words, word_count, words_of, carried_symbols, words_back, carried_words, word_bytes_back, words_length}
use Rattle.carrying.specs.Changing.{part_replaced, changed_symbols}
use Rattle.carrying.proofs.Replaced.{front_replaced}
use Rattle.carrying.proofs.Changing.{changed_lem}
use Rattle.carrying.proofs.Carried as symbols
use Rattle.carrying.proofs.Carried.{Carrier}

-- whole words: as many bytes, or one more
pub words_enough : (n : ℕ) → n ≤ word_count n * 2
unfolding word_count
words_enough n = omega arith

pub words_even : (n : ℕ) → n % 2 ≡ 0 → word_count n * 2 ≡ n
unfolding word_count
words_even n e = omega arith

-- bytes with what makes their number even
abbrev pub evened : List ℕ → List ℕ
evened s = padded (word_count (length s) * 2) s

pub length_evened : (s : List ℕ) → length (evened s) ≡ word_count (length s) * 2
length_evened s = length_padded (word_count (length s) * 2) s (words_enough (length s))

pub evened_below : (s : List ℕ) → all_below 256 s ≡ true → all_below 256 (evened s) ≡ true
evened_below s low = below_padded 256 (word_count (length s) * 2) s (omega arith) low

-- their words
pub length_words : (s : List ℕ) → length (words_of s) ≡ word_count (length s)
unfolding words_of
length_words s = count_symbols 2 (word_count (length s)) (evened s) (omega arith) (length_evened s)

pub words_below : (s : List ℕ) → all_below 256 s ≡ true → all_below 65536 (words_of s) ≡ true
unfolding words_of
words_below s low = symbols_below 2 (evened s) (omega arith) (evened_below s low)

words_again : (s : List ℕ) → all_below 256 s ≡ true → take (length s) (bytes_of 2 (words_of s)) ≡ s
unfolding words_of
words_again s low =
    ap (take (length s)) (bytes_symbols 2 (word_count (length s)) (evened s) (omega arith) (length_evened s) (evened_below s low))
    ∙ take_padded (word_count (length s) * 2) (length s) s refl

module _ (p : ℕ) where
  -- the symbols that carry bytes
  pub carried_symbols_lem : (s : List ℕ) → symbols_of 2 (carried_words p s) ≡ carried_symbols p (words_of s)
  unfolding carried_words
  carried_symbols_lem s = symbols_bytes 2 (carried_symbols p (words_of s)) (omega arith)

module _ (p : ℕ) (carrier : Carrier p) where
  -- bytes that are carried are read again
  pub words_back_lem : (s : List ℕ) → all_below 256 s ≡ true → word_bytes_back p (length s) (carried_words p s) ≡ s
  unfolding word_bytes_back
  words_back_lem s low =
      ap (λ (xs : List ℕ). take (length s) (bytes_of 2 (words_back p xs))) (carried_symbols_lem p s)
      ∙ ap (λ (ws : List ℕ). take (length s) (bytes_of 2 ws)) (symbols.words_back_lem p carrier.some (words_of s))
      ∙ words_again s low

  -- every symbol that carries is below p
  pub words_carried_below : (s : List ℕ) → all_below 256 s ≡ true → all_below p (symbols_of 2 (carried_words p s)) ≡ true
  words_carried_below s low = rw (carried_symbols_lem p s) (symbols.carried_below p carrier (words_of s) (words_below s low))

  -- how many bytes carry
  pub length_carried : (s : List ℕ) → length (carried_words p s) ≡ words_length p (length s)
  unfolding carried_words words_length
  length_carried s =
      length_bytes 2 (carried_symbols p (words_of s))
      ∙ ap (λ (n : ℕ). n * 2) (symbols.length_carried p carrier.some (words_of s) ∙ ap (λ (n : ℕ). n + group_count (group_words p) n) (length_words s))

  -- and so many are read again
  pub length_read : (n : ℕ) (s : List ℕ) → length s ≡ words_length p n → length (bytes_of 2 (words_back p (symbols_of 2 s))) ≡ word_count n * 2
  unfolding words_length
  length_read n s long =
      length_bytes 2 (words_back p (symbols_of 2 s))
      ∙ ap (λ (x : ℕ). x * 2) (symbols.length_again p carrier.some (word_count n) (symbols_of 2 s) (count_symbols 2 _ s (omega arith) long))

  pub length_back : (n : ℕ) (s : List ℕ) → length s ≡ words_length p n → length (word_bytes_back p n s) ≡ n
  unfolding word_bytes_back
  length_back n s long = length-take-le n (bytes_of 2 (words_back p (symbols_of 2 s))) (omega (arith, length_read n s long, words_enough n))

  -- bytes that are changed in the symbols of n bytes: as many, symbols, and what is read
  pub record WordsChanged (n at : ℕ) (bs s : List ℕ) : Type 0 where
    pub size : length (bytes_of 2 (changed_symbols p at bs (symbols_of 2 s))) ≡ length s
    pub below : all_below p (symbols_of 2 (bytes_of 2 (changed_symbols p at bs (symbols_of 2 s)))) ≡ true
    pub back : word_bytes_back p n (bytes_of 2 (changed_symbols p at bs (symbols_of 2 s))) ≡ part_replaced at bs (word_bytes_back p n s)

  pub words_changed : (n at : ℕ) (bs s : List ℕ) → all_below 256 bs ≡ true → at + length bs ≤ n → length s ≡ words_length p n → all_below p (symbols_of 2 s) ≡ true → WordsChanged n at bs s
  unfolding word_bytes_back words_length
  words_changed n at bs s bytes inside long low =
      let xs = symbols_of 2 s in
      let whole = bytes_of 2 (words_back p xs) in
      let read = length_read n s long in
      let all : n ≤ length whole = omega (arith, read, words_enough n) in
      let again = symbols_bytes 2 (changed_symbols p at bs xs) (omega arith) in
      let changed = changed_lem p carrier xs at bs bytes low (omega (arith, length_bytes 2 (words_back p xs), all)) in
      record {
        size = length_bytes 2 (changed_symbols p at bs xs) ∙ omega (arith, changed.size, length_symbols 2 s, long);
        below = rw again changed.below;
        back = ap (λ (ys : List ℕ). take n (bytes_of 2 (words_back p ys))) again ∙ ap (take n) changed.back ∙ front_replaced n at bs whole inside all;
      }
