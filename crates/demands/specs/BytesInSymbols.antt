-- Bytes on any number of nodes: the numbers that turn the calls away, what is read again, also from any k nodes, and the record for n and k.
use Rattle.std.specs.Prelude.{Ok, Err}
use Rattle.generator.specs.Answers.{Answer}
use Rattle.std.specs.Prelude.{◌≡◌, ◌≢◌, ◌⊎◌, true, List, [], ◌∷◌, ◌++◌, ℕ, ◌+◌, ◌-◌, ◌*◌, ◌/◌, ◌%◌, ◌≤◌, ◌<◌, min, eqb, length, get_or, set, take, drop}
use Rattle.std.specs.Int.Bits.{bit_xor}
use Rattle.layout.specs.Width.{symbols_of}
use Rattle.lists.specs.Choice.{pick}
use Rattle.lists.specs.Numbers.{all_below}
use Rattle.generator.specs.declared.Header.{Header}
use Rattle.generator.specs.Records.{header_of, modulus_of}
use Rattle.encode.specs.Promise.{EncodeSays}
use Rattle.recover.specs.Promise.{RecoverSays}
use Rattle.carry.specs.Promise.{CarriedLenSays, CarryInSays, CarryOutSays, CarryChangeSays}
use Rattle.choose.specs.Promise.{ChooseSays, ChosenWell}
use Rattle.balanced_c.specs.BytesCarried.{CarriedLenGives, CarryInGives, CarryOutGives, CarryChangeGives, ChooseGives}
use Rattle.demands.specs.Judging.{Table, Judged, Returns}
use Rattle.demands.specs.Numbers.{record_numbers, OtherSymbols}
use Rattle.demands.specs.RoundTrips.{cut_of}

-- number 18: a prime field with fewer than 34,816 symbols
abbrev pub CarriesNone : Header → Type 0
CarriesNone h = (modulus_of h ≢ 0) × (modulus_of h < 34816)

-- lines that are asked where C does not hold alone: 18 is asked first, for the record settles the lengths
abbrev pub unless : Type 0 → Table → Table
unless C [] = []
unless C (x ∷ xs) = (x.0, (C → ⊥) × x.1) ∷ unless C xs

-- the words of a group, and the bytes of the symbols that carry n bytes: the bytes themselves, or two for each word and two for each group
abbrev pub words_in_group : ℕ → ℕ
words_in_group p = min 256 (61440 / (65536 - p)) - 1

abbrev pub length_for : ℕ → ℕ → ℕ
length_for p count = let words = count / 2 + count % 2 in pick (eqb p 0) count ((words + (words + (words_in_group p - 1)) / words_in_group p) * 2)

-- carried_len
abbrev pub carried_len_numbers : Header → ℕ → Table
carried_len_numbers h count = unless (CarriesNone h) ((8, 4611686018427387904 < count) ∷ []) ++ ((18, CarriesNone h) ∷ [])

-- carry_in
abbrev pub carry_in_numbers : Header → ℕ → ℕ → Table
carry_in_numbers h count out_len =
    unless (CarriesNone h) (
    (8, 4611686018427387904 < count)
    ∷ (8, out_len ≢ length_for (modulus_of h) count)
    ∷ []
    ) ++ ((18, CarriesNone h) ∷ [])

-- carry_out
abbrev pub carry_out_numbers : Header → List ℕ → ℕ → Table
carry_out_numbers h symbols out_len =
    unless (CarriesNone h) (
    (8, 4611686018427387904 < out_len)
    ∷ (8, length symbols ≢ length_for (modulus_of h) out_len)
    ∷ (11, OtherSymbols h symbols)
    ∷ []
    ) ++ ((18, CarriesNone h) ∷ [])

-- carry_change of `part` of `count` bytes
abbrev pub carry_change_numbers : Header → ℕ → ℕ → ℕ → List ℕ → Table
carry_change_numbers h count at part symbols =
    unless (CarriesNone h) (
    (8, 4611686018427387904 < count)
    ∷ (8, length symbols ≢ length_for (modulus_of h) count)
    ∷ (9, count < at + part)
    ∷ (11, OtherSymbols h symbols)
    ∷ []
    ) ++ ((18, CarriesNone h) ∷ [])

-- over a prime, in symbols xs that carry bytes: the places of the mask and of the word of byte `at`, and the symbol of the word where b is this byte
abbrev pub mask_place : ℕ → ℕ → ℕ
mask_place p at = let m = words_in_group p in at / (m * 2) * (m + 1)

abbrev pub word_place : ℕ → ℕ → ℕ
word_place p at = mask_place p at + 1 + at % (words_in_group p * 2) / 2

abbrev pub symbol_then : ℕ → ℕ → ℕ → List ℕ → ℕ
symbol_then p at b xs =
    let c = get_or xs (mask_place p at) 0 in
    let w = bit_xor (get_or xs (word_place p at) 0) c in bit_xor (pick (eqb (at % (words_in_group p * 2) % 2) 0) (b * 256 + w % 256) (w / 256 * 256 + b)) c

-- choose_record
abbrev pub choose_numbers : ℕ → ℕ → ℕ → Table
choose_numbers n k out_len = (4, (((n < 2) ⊎ (255 < n)) ⊎ (k ≡ 0)) ⊎ (n < k)) ∷ (8, out_len ≢ 7) ∷ []

pub record BytesInSymbols : Type 0 where
  -- which number turns each call away; no byte is written then
  pub length_judged : (rec : List ℕ) (count : ℕ) (answer : Answer ℕ) → CarriedLenSays rec count answer
      → Judged (record_numbers rec ++ carried_len_numbers (header_of rec) count) (λ f. answer ≡ Err f) (Unit {0})
  pub in_judged : (rec bytes out out' : List ℕ) (answer : Answer (Unit {0})) → CarryInSays rec bytes out out' answer
      → Judged (record_numbers rec ++ carry_in_numbers (header_of rec) (length bytes) (length out)) (λ f. answer ≡ Err f) (out' ≡ out)
  pub out_judged : (rec symbols out out' : List ℕ) (answer : Answer (Unit {0})) → CarryOutSays rec symbols out out' answer
      → Judged (record_numbers rec ++ carry_out_numbers (header_of rec) symbols (length out)) (λ f. answer ≡ Err f) (out' ≡ out)
  pub change_judged : (rec : List ℕ) (count at : ℕ) (bytes symbols symbols' : List ℕ) (answer : Answer (Unit {0})) → CarryChangeSays rec count at bytes symbols symbols' answer
      → Judged (record_numbers rec ++ carry_change_numbers (header_of rec) count at (length bytes) symbols) (λ f. answer ≡ Err f) (symbols' ≡ symbols)
  pub choose_judged : (n k : ℕ) (out out' : List ℕ) (answer : Answer ℕ) → ChooseSays n k out out' answer
      → Judged (choose_numbers n k (length out)) (λ f. answer ≡ Err f) (out' ≡ out)
  -- the same of the functions for C; no lent number is altered either
  pub length_returns : (rec : List ℕ) (count carried carried' f : ℕ) → CarriedLenGives rec count carried carried' f
      → Judged (record_numbers rec ++ carried_len_numbers (header_of rec) count) (Returns f) (carried' ≡ carried)
  pub in_returns : (rec bytes out out' : List ℕ) (f : ℕ) → CarryInGives rec bytes out out' f
      → Judged (record_numbers rec ++ carry_in_numbers (header_of rec) (length bytes) (length out)) (Returns f) (out' ≡ out)
  pub out_returns : (rec symbols out out' : List ℕ) (f : ℕ) → CarryOutGives rec symbols out out' f
      → Judged (record_numbers rec ++ carry_out_numbers (header_of rec) symbols (length out)) (Returns f) (out' ≡ out)
  pub change_returns : (rec : List ℕ) (count at : ℕ) (bytes symbols symbols' : List ℕ) (f : ℕ) → CarryChangeGives rec count at bytes symbols symbols' f
      → Judged (record_numbers rec ++ carry_change_numbers (header_of rec) count at (length bytes) symbols) (Returns f) (symbols' ≡ symbols)
  pub choose_returns : (n k : ℕ) (out : List ℕ) (len : ℕ) (out' : List ℕ) (len' f : ℕ) → ChooseGives n k out len out' len' f
      → Judged (choose_numbers n k (length out)) (Returns f) ((out' ≡ out) × (len' ≡ len))
  -- how many bytes of symbols carry `count` bytes
  pub lengths : (rec : List ℕ) (count long : ℕ) → CarriedLenSays rec count (Ok long) → long ≡ length_for (modulus_of (header_of rec)) count
  -- what carry_in wrote are symbols ..
  pub symbols : (rec bytes out out' : List ℕ) → all_below 256 bytes ≡ true → CarryInSays rec bytes out out' (Ok tt) → OtherSymbols (header_of rec) out' → ⊥
  -- .. and carry_out, lent room for as many bytes, is done and writes these bytes
  pub bytes_back : (rec bytes out out' room room' : List ℕ) (answer : Answer (Unit {0})) → all_below 256 bytes ≡ true
      → CarryInSays rec bytes out out' (Ok tt) → length room ≡ length bytes → CarryOutSays rec out' room room' answer
      → (answer ≡ Ok tt) × (room' ≡ bytes)
  -- what carry_change wrote are symbols, as many as there were, and carry_out is done and writes what it would have written before, with the part replaced
  pub changed_symbols : (rec : List ℕ) (count at : ℕ) (bytes symbols symbols' : List ℕ) → all_below 256 bytes ≡ true → CarryChangeSays rec count at bytes symbols symbols' (Ok tt)
      → (OtherSymbols (header_of rec) symbols' → ⊥) × (length symbols' ≡ length symbols)
  pub changed_back : (rec : List ℕ) (count at : ℕ) (bytes symbols symbols' before before' room room' : List ℕ) (answer : Answer (Unit {0})) → all_below 256 bytes ≡ true
      → CarryChangeSays rec count at bytes symbols symbols' (Ok tt) → length before ≡ count → CarryOutSays rec symbols before before' (Ok tt) → length room ≡ count → CarryOutSays rec symbols' room room' answer
      → (answer ≡ Ok tt) × (room' ≡ take at before' ++ (bytes ++ drop (length bytes) (drop at before')))
  -- one byte that changes, over a prime: the symbol of its word, while that is one under the mask of its group, and no other
  pub one_symbol : (rec : List ℕ) (count at b : ℕ) (symbols symbols' : List ℕ) → modulus_of (header_of rec) ≢ 0 → CarryChangeSays rec count at (b ∷ []) symbols symbols' (Ok tt)
      → let p = modulus_of (header_of rec) in let xs = symbols_of 2 symbols in symbol_then p at b xs < p
      → symbols_of 2 symbols' ≡ set xs (word_place p at) (symbol_then p at b xs)
  -- also where a message began with it, was encoded, and was recovered from any k nodes
  pub recovered : (rec bytes out symbols rest : List ℕ) (l : ℕ) (old shares nodes back back' room room' : List ℕ) (answer : Answer (Unit {0})) → all_below 256 bytes ≡ true → all_below 256 (symbols ++ rest) ≡ true
      → CarryInSays rec bytes out symbols (Ok tt) → EncodeSays rec l (symbols ++ rest) old shares (Ok tt) → RecoverSays rec l nodes (cut_of (header_of rec) l nodes shares) back back' (Ok tt)
      → length room ≡ length bytes → CarryOutSays rec (take (length symbols) back') room room' answer
      → (answer ≡ Ok tt) × (room' ≡ bytes)
  -- every n from 2 to 255 and every k from 1 to n has a record, which stands in front of the room
  pub chosen : (n k : ℕ) → 2 ≤ n → n ≤ 255 → 0 < k → k ≤ n → (out out' : List ℕ) (count : ℕ) → ChooseSays n k out out' (Ok count) → ChosenWell n k (take count out')
