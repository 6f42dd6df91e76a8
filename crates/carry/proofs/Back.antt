-- What one call carries the other reads, from the promises of both alone.
use Rattle.std.specs.Prelude.{Ok}
use Rattle.generator.specs.Answers.{Answer, answer_of, outcome_of}
use mathlib.Core.Path.{◌≡◌, ap, ◌∙◌}
use mathlib.Core.Bool.{true, false, not}
use mathlib.Core.List.{List, [], ◌∷◌}
use Prim.Native.Nat.{ℕ, ◌+◌, ◌*◌, ◌/◌, ◌%◌, ◌≤◌, ◌<◌}
use native.Mathlib.Omega.{arith}
use borrow.Author.Tests.{eq-eqb, le-ltb, ne_eqb, lt-leb}
use lib.Bits.{bit_xor}
use lib.Dec.{eqb}
use lib.ListN.{length, get_or, set}
use Rattle.lists.specs.Choice.{pick}
use Rattle.lists.specs.Numbers.{all_below}
use Rattle.lists.proofs.Cases.{first_zero}
use Rattle.generator.specs.declared.Header.{Header}
use Rattle.generator.specs.Records.{header_of, modulus_of, width, record_fault, Sound}
use Rattle.generator.proofs.Answered.{done_is}
use Rattle.refusals.specs.Conditions.{length_bad, symbols_bad}
use Rattle.refusals.specs.Faults.{fault_of}
use Rattle.refusals.proofs.OnRecord.{none_met}
use Rattle.layout.specs.Width.{symbols_of, bytes_of}
use Rattle.layout.proofs.Widths.{length_bytes, symbols_bytes}
use Rattle.field.specs.Fields.{size_of}
use Rattle.field.specs.Widths.{bytes_for}
use Rattle.carrying.specs.Carrying.{carries_none, group_words, words_back, words_length, carried_bytes, bytes_back, carried_length}
use Rattle.carrying.specs.Changing.{changed_symbols, changed_bytes}
use Rattle.carrying.proofs.Carried.{carrier_good}
use Rattle.carrying.proofs.Bytes.{length_read, words_enough}
use Rattle.carrying.proofs.OneByte.{word_with, word_inside, one_symbol}
use Rattle.carrying.proofs.BothKinds.{ChangedBytes, bytes_back_lem, length_carried, carried_below, changed_bytes_lem}
use Rattle.carry.specs.Promise.{long_bad, carried_len_fault, carry_in_fault, carry_out_fault, carry_change_fault, CarryInSays, CarryChangeSays, Carries, CarriesChanged}
use Rattle.carry.proofs.Accepts.{Carriable, Changeable, modulus_word, in_accepts, change_accepts, good_symbols}

-- no number is met
in_none : (h : Header) (n long : ℕ) → Carriable h n → long ≡ carried_length (modulus_of h) n → carry_in_fault h n long ≡ 0
unfolding carry_in_fault carried_len_fault long_bad length_bad
in_none h n long good fits = rw (good.carries, le-ltb 4611686018427387904 n good.few, eq-eqb long (carried_length (modulus_of h) n) fits)

-- a record that carries, no more than 2^62 bytes and the room for them: the call is done, whatever the bytes
pub always_done : (rec bytes out out' : List ℕ) (answer : Answer (Unit {0})) → record_fault rec ≡ 0 → carries_none (modulus_of (header_of rec)) ≡ false → length bytes ≤ 4611686018427387904 → length out ≡ carried_length (modulus_of (header_of rec)) (length bytes) → CarryInSays rec bytes out out' answer → answer ≡ Ok tt
unfolding answer_of fault_of
always_done rec bytes out out' answer accepted carries few fits says =
    let zero : fault_of rec (λ h. carry_in_fault h (length bytes) (length out)) ≡ 0 = rw accepted (in_none (header_of rec) (length bytes) (length out) (record { carries = carries; few = few }) fits) in
    says.promise.answered ∙ ap outcome_of zero

-- the symbols that it wrote carry the bytes
module _ (rec bytes : List ℕ) (sound : Sound (header_of rec)) (accepted : record_fault rec ≡ 0) (good : Carriable (header_of rec) (length bytes)) (low : all_below 256 bytes ≡ true) where
  symbols_good : symbols_bad (header_of rec) (carried_bytes (modulus_of (header_of rec)) bytes) ≡ false
  unfolding symbols_bad width
  symbols_good = ap not (carried_below (modulus_of (header_of rec)) (modulus_word (header_of rec).field sound.usable_field) good.carries bytes low)

  none_met_out : (room : ℕ) → room ≡ length bytes → fault_of rec (λ h. carry_out_fault h room (carried_bytes (modulus_of (header_of rec)) bytes)) ≡ 0
  unfolding fault_of carry_out_fault
  none_met_out room fits =
      let h = header_of rec in
      let long = length_carried (modulus_of h) (modulus_word h.field sound.usable_field) good.carries bytes in
      let inside : carry_in_fault h room (length (carried_bytes (modulus_of h) bytes)) ≡ 0 = rw fits (in_none h (length bytes) _ good long) in
      rw (accepted, inside, symbols_good)

  carried_carries : Carries rec bytes (carried_bytes (modulus_of (header_of rec)) bytes)
  unfolding answer_of
  carried_carries = record {
    symbols_good = symbols_good;
    back = λ out out' answer fits says. (
      says.promise.answered ∙ ap outcome_of (none_met_out (length out) fits),
      says.promise.written
          ∙ ap (λ (f : ℕ). pick (eqb f 0) (bytes_back (modulus_of (header_of rec)) (length out) (carried_bytes (modulus_of (header_of rec)) bytes)) out) (none_met_out (length out) fits)
          ∙ ap (λ (n : ℕ). bytes_back (modulus_of (header_of rec)) n (carried_bytes (modulus_of (header_of rec)) bytes)) fits
          ∙ bytes_back_lem (modulus_of (header_of rec)) (modulus_word (header_of rec).field sound.usable_field) good.carries bytes low,
    );
  }

pub carries : (rec bytes out out' : List ℕ) → all_below 256 bytes ≡ true → CarryInSays rec bytes out out' (Ok tt) → Carries rec bytes out'
unfolding fault_of
carries rec bytes out out' low says =
    let zero = done_is _ _ says.promise.answered in
    let (sound, call) = none_met rec (λ h. carry_in_fault h (length bytes) (length out)) zero in
    let (good, fits) = in_accepts (header_of rec) (length bytes) (length out) call in
    let accepted = (first_zero (record_fault rec) (carry_in_fault (header_of rec) (length bytes) (length out)) zero).0 in
    let is : out' ≡ carried_bytes (modulus_of (header_of rec)) bytes = says.promise.written ∙ ap (λ (f : ℕ). pick (eqb f 0) (carried_bytes (modulus_of (header_of rec)) bytes) out) zero in
    rw is (carried_carries rec bytes sound accepted good low)

-- symbols in which a part of the bytes was changed
module _ (rec : List ℕ) (n at : ℕ) (bytes symbols : List ℕ) (sound : Sound (header_of rec)) (accepted : record_fault rec ≡ 0) (can : Changeable (header_of rec) n at (length bytes) symbols) (low : all_below 256 bytes ≡ true) where
  changed : ChangedBytes (modulus_of (header_of rec)) (modulus_word (header_of rec).field sound.usable_field) (in_accepts (header_of rec) n (length symbols) can.carried).0.carries n at bytes symbols
  changed =
      let h = header_of rec in
      let (good, fits) = in_accepts h n (length symbols) can.carried in
      changed_bytes_lem (modulus_of h) (modulus_word h.field sound.usable_field) good.carries n at bytes symbols low can.inside fits (good_symbols h symbols can.good)

  still_good : symbols_bad (header_of rec) (changed_bytes (modulus_of (header_of rec)) at bytes symbols) ≡ false
  unfolding symbols_bad width
  still_good = ap not changed.below

  none_met_then : (room : ℕ) → room ≡ n → fault_of rec (λ h. carry_out_fault h room (changed_bytes (modulus_of (header_of rec)) at bytes symbols)) ≡ 0
  unfolding fault_of carry_out_fault
  none_met_then room fits =
      let h = header_of rec in
      let inside : carry_in_fault h room (length (changed_bytes (modulus_of h) at bytes symbols)) ≡ 0 = rw (fits, changed.size) can.carried in
      rw (accepted, inside, still_good)

  changed_carries : CarriesChanged rec n at bytes symbols (changed_bytes (modulus_of (header_of rec)) at bytes symbols)
  unfolding answer_of
  changed_carries =
      let p = modulus_of (header_of rec) in
      let symbols' = changed_bytes p at bytes symbols in record {
        symbols_good = still_good;
        as_many = changed.size;
        back = λ out out' answer fits says. (
          says.promise.answered ∙ ap outcome_of (none_met_then (length out) fits),
          says.promise.written
              ∙ ap (λ (f : ℕ). pick (eqb f 0) (bytes_back p (length out) symbols') out) (none_met_then (length out) fits)
              ∙ ap (λ (m : ℕ). bytes_back p m symbols') fits
              ∙ changed.back,
        );
      }

pub carries_changed : (rec : List ℕ) (n at : ℕ) (bytes symbols symbols' : List ℕ) → all_below 256 bytes ≡ true → CarryChangeSays rec n at bytes symbols symbols' (Ok tt) → CarriesChanged rec n at bytes symbols symbols'
unfolding fault_of
carries_changed rec n at bytes symbols symbols' low says =
    let h = header_of rec in
    let zero = done_is _ _ says.promise.answered in
    let (sound, call) = none_met rec (λ h. carry_change_fault h n at (length bytes) symbols) zero in
    let accepted = (first_zero (record_fault rec) (carry_change_fault h n at (length bytes) symbols) zero).0 in
    let is : symbols' ≡ changed_bytes (modulus_of h) at bytes symbols = says.promise.written ∙ ap (λ (f : ℕ). pick (eqb f 0) (changed_bytes (modulus_of h) at bytes symbols) symbols) zero in
    rw is (changed_carries rec n at bytes symbols sound accepted (change_accepts h n at (length bytes) symbols call) low)

-- a byte that was changed, over a prime: its word's symbol, where that is one under the mask of its group, and no other
pub one_changed : (rec : List ℕ) (n at b : ℕ) (symbols symbols' : List ℕ) → (modulus_of (header_of rec) ≡ 0 → ⊥) → CarryChangeSays rec n at (b ∷ []) symbols symbols' (Ok tt) →
    let p = modulus_of (header_of rec) in
    let m = group_words p in
    let xs = symbols_of 2 symbols in
    let first = at / (m * 2) * (m + 1) in
    let q = first + 1 + at % (m * 2) / 2 in
    let c = get_or xs first 0 in
    let v = bit_xor (word_with (at % (m * 2)) b (bit_xor (get_or xs q 0) c)) c in v < p → symbols_of 2 symbols' ≡ set xs q v
unfolding fault_of carried_length size_of bytes_for changed_bytes
one_changed rec n at b symbols symbols' prime says good =
    let h = header_of rec in
    let p = modulus_of h in
    let xs = symbols_of 2 symbols in
    let zero = done_is _ _ says.promise.answered in
    let (sound, call) = none_met rec (λ h. carry_change_fault h n at (length (b ∷ [])) symbols) zero in
    let can = change_accepts h n at (length (b ∷ [])) symbols call in
    let (carriable, fits) = in_accepts h n (length symbols) can.carried in
    let carrier = carrier_good p carriable.carries prime (modulus_word h.field sound.usable_field) in
    let none : eqb p 0 ≡ false = ne_eqb p 0 prime in
    let long : length symbols ≡ words_length p n = rw none at fits in
    let low : all_below p xs ≡ true = rw (none, lt-leb p 256 (omega (arith, carrier.large))) at (good_symbols h symbols can.good) in
    let read = length_read p carrier n symbols long in
    let inside : at < length (words_back p xs) * 2 = omega (arith, can.inside, length_bytes 2 (words_back p xs), read, words_enough n) in
    let written : symbols' ≡ changed_bytes p at (b ∷ []) symbols = says.promise.written ∙ ap (λ (f : ℕ). pick (eqb f 0) (changed_bytes p at (b ∷ []) symbols) symbols) zero in
    let is : symbols' ≡ bytes_of 2 (changed_symbols p at (b ∷ []) xs) = rw none at written in
    ap (symbols_of 2) is ∙ symbols_bytes 2 (changed_symbols p at (b ∷ []) xs) (omega arith) ∙ one_symbol p carrier.some xs low at b (word_inside p carrier.some xs low at b inside) good
