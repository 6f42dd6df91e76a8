-- Bytes carried in the symbols of a record, read again, and changed there: the numbers that turn the calls away, and what they promise.
use Rattle.std.specs.Prelude.{Ok}
use Rattle.generator.specs.Answers.{Answer, answer_of, outcome_of}
use Rattle.std.specs.Prelude.{◌≡◌, Bool, false, List, ℕ, ◌+◌, eqb, ltb, length}
use Rattle.lists.specs.Choice.{pick, first_of, when}
use Rattle.generator.specs.declared.Header.{Header}
use Rattle.generator.specs.Records.{header_of, modulus_of}
use Rattle.refusals.specs.Conditions.{length_bad, symbols_bad}
use Rattle.refusals.specs.Promise.{OnRecord}
use Rattle.carrying.specs.Carrying.{carries_none, carried_bytes, bytes_back, carried_length}
use Rattle.carrying.specs.Changing.{part_replaced, changed_bytes}

-- number 8: more bytes than 2^62, of which no buffer has so many
unfoldable pub long_bad : ℕ → Bool
long_bad count = ltb 4611686018427387904 count

-- the length that carries `count` bytes: 18 for a record that carries none stands before the lengths, which it settles
unfoldable pub carried_len_fault : Header → ℕ → ℕ
carried_len_fault h count = first_of (when (carries_none (modulus_of h)) 18) (when (long_bad count) 8)

-- `count` bytes carried in so many
unfoldable pub carry_in_fault : Header → ℕ → ℕ → ℕ
carry_in_fault h count out_len = first_of (carried_len_fault h count) (when (length_bad (carried_length (modulus_of h) count) out_len) 8)

-- `count` bytes read from symbols
unfoldable pub carry_out_fault : Header → ℕ → List ℕ → ℕ
carry_out_fault h count symbols = first_of (carry_in_fault h count (length symbols)) (when (symbols_bad h symbols) 11)

-- number 9: a part of `count` bytes ends behind them
unfoldable pub part_bad : ℕ → ℕ → ℕ → Bool
part_bad count at part = ltb count (at + part)

-- a part of `count` bytes that symbols carry, from `at` on, changed
unfoldable pub carry_change_fault : Header → ℕ → ℕ → ℕ → List ℕ → ℕ
carry_change_fault h count at part symbols = first_of (carry_in_fault h count (length symbols)) (first_of (when (part_bad count at part) 9) (when (symbols_bad h symbols) 11))

-- so many bytes, or the number
pub record CarriedLenPromise (count : ℕ) (answer : Answer ℕ) (h : Header) (f : ℕ) : Type 0 where
  pub answered : answer ≡ answer_of f (carried_length (modulus_of h) count)

-- the bytes as they are carried; nothing is written beside a number
pub record CarryInPromise (bytes out out' : List ℕ) (answer : Answer (Unit {0})) (h : Header) (f : ℕ) : Type 0 where
  pub answered : answer ≡ outcome_of f
  pub written : out' ≡ pick (eqb f 0) (carried_bytes (modulus_of h) bytes) out

-- the bytes that the symbols carry, as many as there is room for; likewise
pub record CarryOutPromise (symbols out out' : List ℕ) (answer : Answer (Unit {0})) (h : Header) (f : ℕ) : Type 0 where
  pub answered : answer ≡ outcome_of f
  pub written : out' ≡ pick (eqb f 0) (bytes_back (modulus_of h) (length out) symbols) out

-- a part of the bytes changed where they are carried; likewise
pub record CarryChangePromise (at : ℕ) (bytes symbols symbols' : List ℕ) (answer : Answer (Unit {0})) (h : Header) (f : ℕ) : Type 0 where
  pub answered : answer ≡ outcome_of f
  pub written : symbols' ≡ pick (eqb f 0) (changed_bytes (modulus_of h) at bytes symbols) symbols

-- over the record as it is read
abbrev pub CarriedLenSays : List ℕ → ℕ → Answer ℕ → Type 0
CarriedLenSays rec count answer = OnRecord rec (λ h. carried_len_fault h count) (CarriedLenPromise count answer)

abbrev pub CarryInSays : List ℕ → List ℕ → List ℕ → List ℕ → Answer (Unit {0}) → Type 0
CarryInSays rec bytes out out' answer = OnRecord rec (λ h. carry_in_fault h (length bytes) (length out)) (CarryInPromise bytes out out' answer)

abbrev pub CarryOutSays : List ℕ → List ℕ → List ℕ → List ℕ → Answer (Unit {0}) → Type 0
CarryOutSays rec symbols out out' answer = OnRecord rec (λ h. carry_out_fault h (length out) symbols) (CarryOutPromise symbols out out' answer)

abbrev pub CarryChangeSays : List ℕ → ℕ → ℕ → List ℕ → List ℕ → List ℕ → Answer (Unit {0}) → Type 0
CarryChangeSays rec count at bytes symbols symbols' answer = OnRecord rec (λ h. carry_change_fault h count at (length bytes) symbols) (CarryChangePromise at bytes symbols symbols' answer)

-- symbols that carry bytes: they are symbols, and the third call is done with room for as many bytes, and writes these bytes
pub record Carries (rec bytes symbols : List ℕ) : Type 0 where
  pub symbols_good : symbols_bad (header_of rec) symbols ≡ false
  pub back : (out out' : List ℕ) (answer : Answer (Unit {0})) → length out ≡ length bytes → CarryOutSays rec symbols out out' answer → (answer ≡ Ok tt) × (out' ≡ bytes)

-- symbols in which a part of n bytes was changed: they are symbols, as many as before, and the third call writes the bytes that it would have written before, with the part replaced
pub record CarriesChanged (rec : List ℕ) (n at : ℕ) (bytes symbols symbols' : List ℕ) : Type 0 where
  pub symbols_good : symbols_bad (header_of rec) symbols' ≡ false
  pub as_many : length symbols' ≡ length symbols
  pub back : (out out' : List ℕ) (answer : Answer (Unit {0})) → length out ≡ n → CarryOutSays rec symbols' out out' answer → (answer ≡ Ok tt) × (out' ≡ part_replaced at bytes (bytes_back (modulus_of (header_of rec)) n symbols))
