-- Bytes on any number of nodes, from what their calls promise.
use Rattle.std.specs.Prelude.{Ok, Err}
use Rattle.std.proofs.Math.Seq.{take-append_seam}
use Rattle.generator.specs.Answers.{Answer}
use mathlib.Core.Path.{◌≡◌, refl, sym, ap, ◌∙◌}
use mathlib.Core.Logic.{◌↔◌, ◌≢◌, ◌⊎◌, inl, inr, ⊎_elim}
use mathlib.Core.Bool.{Bool, true, false, not, true≢false}
use mathlib.Core.List.{List, [], ◌∷◌, ◌++◌}
use Prim.Native.Nat.{ℕ, suc, ◌+◌, ◌≤◌, ◌<◌}
use native.Mathlib.Omega.{arith}
use borrow.Author.Tests.{ne_eqb}
use lib.Dec.{eqb, ltb}
use lib.ListN.{length, set, take, drop}
use Rattle.layout.specs.Width.{symbols_of}
use Rattle.std.proofs.lemmas.Bool.{and_parts, and_from}
use Rattle.lists.specs.Numbers.{all_below}
use Rattle.generator.specs.declared.Header.{Header}
use Rattle.generator.specs.Records.{header_of, modulus_of}
use Rattle.generator.proofs.Answered.{done_is, value_is}
use Rattle.refusals.specs.Conditions.{length_bad, symbols_bad}
use Rattle.refusals.specs.Faults.{fault_of}
use Rattle.encode.specs.Promise.{EncodeSays}
use Rattle.recover.specs.Promise.{RecoverSays}
use Rattle.carrying.specs.Groups.{group_count}
use Rattle.lists.specs.Choice.{pick}
use Rattle.carrying.specs.Carrying.{carries_none, group_words, word_count, words_length, bytes_back as bytes_read, carried_length}
use Rattle.carrying.specs.Changing.{part_replaced}
use Rattle.carry.specs.Promise.{long_bad, carried_len_fault, part_bad, carry_in_fault, carry_out_fault, carry_change_fault, CarriedLenSays, CarryInSays, CarryOutSays, CarryChangeSays}
use Rattle.carry.proofs.Back.{carries, carries_changed, one_changed}
use Rattle.choose.specs.Promise.{chosen_record, asked_bad, choose_fault, ChooseSays, ChosenWell}
use Rattle.choose.proofs.Accepted.{chosen_well}
use Rattle.balanced_c.specs.BytesCarried.{CarriedLenGives, CarryInGives, CarryOutGives, CarryChangeGives, ChooseGives}
use Rattle.demands.specs.Judging.{Table, Met, Judged, Returns}
use Rattle.demands.specs.Numbers.{record_numbers, OtherSymbols}
use Rattle.demands.specs.RoundTrips.{cut_of}
use Rattle.demands.specs.BytesInSymbols.{CarriesNone, unless, length_for, carried_len_numbers, carry_in_numbers, carry_out_numbers, carry_change_numbers, word_place, symbol_then, choose_numbers, BytesInSymbols}
use Rattle.demands.proofs.Judging.{Tells, line, last, then, by_number}
use Rattle.demands.proofs.Conditions.{equal_test, less_test, other_test, or_test}
use Rattle.demands.proofs.Numbers.{length_means, symbols_mean, own_after}
use Rattle.demands.proofs.Refusals.{by_outcome}
use Rattle.demands.proofs.RoundTrips.{round_trips}

-- lines that are asked where C is not met, and behind them the line of C itself
module _ (C : Type 0) (n : ℕ) where
  abbrev both : Table → Table
  both own = unless C own ++ ((suc n, C) ∷ [])

  own_met : (C → ⊥) → (own : Table) (f : ℕ) → Met own f → Met (both own) f
  own_met never [] f m = absurd m
  own_met never (x ∷ xs) f (inl here) = inl (here.0, (never, here.1))
  own_met never (x ∷ xs) f (inr there) = inr (own_met never xs f there)

  last_met : (own : Table) → C → Met (both own) (suc n)
  last_met [] holds = inl (refl, holds)
  last_met (x ∷ xs) holds = inr (last_met xs holds)

  either_met : (own : Table) (f : ℕ) → Met (both own) f → ((C → ⊥) × Met own f) ⊎ ((suc n ≡ f) × C)
  either_met [] f (inl here) = inr here
  either_met [] f (inr there) = absurd there
  either_met (x ∷ xs) f (inl here) = inl (here.1.0, inl (here.0, here.1.1))
  either_met (x ∷ xs) f (inr there) = ⊎_elim (λ m. inl (m.0, inr m.1)) (λ last. inr last) (either_met xs f there)

  -- so the test of C may come first: where it is met its number is given
  first_asked : (t : Bool) (own : Table) {f : ℕ} → (t ≡ true) ↔ C → (t ≡ true → f ≡ suc n) → (t ≡ false → Tells own f) → Tells (both own) f
  first_asked true own {f} means first after =
      let holds = means.0 refl in
      let is = first refl in
      record {
        met = λ some. rw is (last_met own holds);
        least = λ g m. (omega (arith, is), ⊎_elim (λ here. absurd (here.0 holds)) (λ last. omega (arith, is, last.0)) (either_met own g m));
      }
  first_asked false own {f} means first after =
      let tail = after refl in
      let never : C → ⊥ = λ holds. true≢false (sym (means.1 holds)) in
      record {
        met = λ some. own_met never own f (tail.met some);
        least = λ g m. ⊎_elim (λ here. tail.least g here.1) (λ last. absurd (never last.1)) (either_met own g m);
      }

-- the numbers of a call with a header
module _ (h : Header) where
  abbrev none : Bool
  none = carries_none (modulus_of h)

  none_means : (none ≡ true) ↔ CarriesNone h
  unfolding carries_none
  none_means =
      let p = modulus_of h in (
        λ e. let (some, few) = and_parts (not (eqb p 0)) (ltb p 34816) e in ((other_test p 0).0 some, (less_test p 34816).0 few),
        λ c. and_from _ _ ((other_test p 0).1 c.0) ((less_test p 34816).1 c.1),
      )

  long_means : (n : ℕ) → (long_bad n ≡ true) ↔ (4611686018427387904 < n)
  unfolding long_bad
  long_means n = less_test 4611686018427387904 n

  length_is : (n : ℕ) → carried_length (modulus_of h) n ≡ length_for (modulus_of h) n
  unfolding carried_length words_length word_count group_count group_words
  length_is n = refl

  fits_means : (n long : ℕ) → (length_bad (carried_length (modulus_of h) n) long ≡ true) ↔ (long ≢ length_for (modulus_of h) n)
  fits_means n long = rw (length_is n) (length_means (length_for (modulus_of h) n) long)

  length_tells : (n : ℕ) → Tells (carried_len_numbers h n) (carried_len_fault h n)
  unfolding carried_len_fault
  length_tells n = first_asked (CarriesNone h) 17 none ((8, 4611686018427387904 < n) ∷ []) none_means (λ e. rw e refl) (λ e. rw e (last 7 (long_bad n) (long_means n)))

  in_tells : (n long : ℕ) → Tells (carry_in_numbers h n long) (carry_in_fault h n long)
  unfolding carried_len_fault carry_in_fault
  in_tells n long =
      first_asked (CarriesNone h) 17 none ((8, 4611686018427387904 < n) ∷ (8, long ≢ length_for (modulus_of h) n) ∷ []) none_means
      (λ e. rw e refl)
      (λ e. rw e (
      line 7 (long_bad n) refl (long_means n)
      (λ _. last 7 (length_bad (carried_length (modulus_of h) n) long) (fits_means n long))
      ))

  out_tells : (symbols : List ℕ) (n : ℕ) → Tells (carry_out_numbers h symbols n) (carry_out_fault h n symbols)
  unfolding carried_len_fault carry_in_fault carry_out_fault
  out_tells symbols n =
      first_asked (CarriesNone h) 17 none ((8, 4611686018427387904 < n) ∷ (8, length symbols ≢ length_for (modulus_of h) n) ∷ (11, OtherSymbols h symbols) ∷ []) none_means
      (λ e. rw e refl)
      (λ e. rw e (
      then 8 ((8, 4611686018427387904 < n) ∷ (8, length symbols ≢ length_for (modulus_of h) n) ∷ []) ((11, OtherSymbols h symbols) ∷ []) refl refl
      (line 7 (long_bad n) refl (long_means n)
      (λ _. last 7 (length_bad (carried_length (modulus_of h) n) (length symbols)) (fits_means n (length symbols))))
      (λ _. last 10 (symbols_bad h symbols) (symbols_mean h symbols))
      ))

  part_means : (n at count : ℕ) → (part_bad n at count ≡ true) ↔ (n < at + count)
  unfolding part_bad
  part_means n at count = less_test n (at + count)

  change_tells : (n at count : ℕ) (symbols : List ℕ) → Tells (carry_change_numbers h n at count symbols) (carry_change_fault h n at count symbols)
  unfolding carried_len_fault carry_in_fault carry_change_fault
  change_tells n at count symbols =
      first_asked (CarriesNone h) 17 none ((8, 4611686018427387904 < n) ∷ (8, length symbols ≢ length_for (modulus_of h) n) ∷ (9, n < at + count) ∷ (11, OtherSymbols h symbols) ∷ []) none_means
      (λ e. rw e refl)
      (λ e. rw e (
      then 8 ((8, 4611686018427387904 < n) ∷ (8, length symbols ≢ length_for (modulus_of h) n) ∷ []) ((9, n < at + count) ∷ (11, OtherSymbols h symbols) ∷ []) refl refl
      (line 7 (long_bad n) refl (long_means n)
      (λ _. last 7 (length_bad (carried_length (modulus_of h) n) (length symbols)) (fits_means n (length symbols))))
      (λ _. line 8 (part_bad n at count) refl (part_means n at count) (λ _. last 10 (symbols_bad h symbols) (symbols_mean h symbols)))
      ))

-- those of a record for n and k
asked_means : (n k : ℕ) → (asked_bad n k ≡ true) ↔ ((((n < 2) ⊎ (255 < n)) ⊎ (k ≡ 0)) ⊎ (n < k))
unfolding asked_bad
asked_means n k =
    or_test _ (ltb n k)
    (or_test _ (eqb k 0) (or_test (ltb n 2) (ltb 255 n) (less_test n 2) (less_test 255 n)) (equal_test k 0))
    (less_test n k)

choose_tells : (n k room : ℕ) → Tells (choose_numbers n k room) (choose_fault n k room)
unfolding choose_fault
choose_tells n k room = line 3 (asked_bad n k) refl (asked_means n k) (λ _. last 7 (length_bad 7 room) (length_means 7 room))

module _ (rec : List ℕ) where
  abbrev hd : Header
  hd = header_of rec

  module _ (n : ℕ) where
    length_number : Tells (record_numbers rec ++ carried_len_numbers hd n) (fault_of rec (λ h. carried_len_fault h n))
    length_number = own_after rec _ (λ h. carried_len_fault h n) refl (λ none. length_tells hd n)

    length_judged : (r : Answer ℕ) → CarriedLenSays rec n r → Judged (record_numbers rec ++ carried_len_numbers hd n) (λ f. r ≡ Err f) (Unit {0})
    length_judged r says = by_outcome _ length_number says.promise.answered (λ some. tt)

    length_returns : (carried carried' r : ℕ) → CarriedLenGives rec n carried carried' r → Judged (record_numbers rec ++ carried_len_numbers hd n) (Returns r) (carried' ≡ carried)
    length_returns carried carried' r g = by_number g.number length_number (λ some. rw (ne_eqb r 0 some) at g.carried_is)

    lengths : (count : ℕ) → CarriedLenSays rec n (Ok count) → count ≡ length_for (modulus_of hd) n
    lengths count says = value_is _ _ says.promise.answered ∙ length_is hd n

  module _ (bytes out out' : List ℕ) where
    in_number : Tells (record_numbers rec ++ carry_in_numbers hd (length bytes) (length out)) (fault_of rec (λ h. carry_in_fault h (length bytes) (length out)))
    in_number = own_after rec _ (λ h. carry_in_fault h (length bytes) (length out)) refl (λ none. in_tells hd (length bytes) (length out))

    in_judged : (r : Answer (Unit {0})) → CarryInSays rec bytes out out' r → Judged (record_numbers rec ++ carry_in_numbers hd (length bytes) (length out)) (λ f. r ≡ Err f) (out' ≡ out)
    in_judged r says = by_outcome _ in_number says.promise.answered (λ some. rw (ne_eqb _ 0 some) at says.promise.written)

    in_returns : (r : ℕ) → CarryInGives rec bytes out out' r → Judged (record_numbers rec ++ carry_in_numbers hd (length bytes) (length out)) (Returns r) (out' ≡ out)
    in_returns r g = by_number g.number in_number (λ some. rw (← g.number, ne_eqb r 0 some) at g.says.promise.written)

  module _ (symbols out out' : List ℕ) where
    out_number : Tells (record_numbers rec ++ carry_out_numbers hd symbols (length out)) (fault_of rec (λ h. carry_out_fault h (length out) symbols))
    out_number = own_after rec _ (λ h. carry_out_fault h (length out) symbols) refl (λ none. out_tells hd symbols (length out))

    out_judged : (r : Answer (Unit {0})) → CarryOutSays rec symbols out out' r → Judged (record_numbers rec ++ carry_out_numbers hd symbols (length out)) (λ f. r ≡ Err f) (out' ≡ out)
    out_judged r says = by_outcome _ out_number says.promise.answered (λ some. rw (ne_eqb _ 0 some) at says.promise.written)

    out_returns : (r : ℕ) → CarryOutGives rec symbols out out' r → Judged (record_numbers rec ++ carry_out_numbers hd symbols (length out)) (Returns r) (out' ≡ out)
    out_returns r g = by_number g.number out_number (λ some. rw (← g.number, ne_eqb r 0 some) at g.says.promise.written)

  module _ (n at : ℕ) (bytes symbols symbols' : List ℕ) where
    change_number : Tells (record_numbers rec ++ carry_change_numbers hd n at (length bytes) symbols) (fault_of rec (λ h. carry_change_fault h n at (length bytes) symbols))
    change_number = own_after rec _ (λ h. carry_change_fault h n at (length bytes) symbols) refl (λ none. change_tells hd n at (length bytes) symbols)

    change_judged : (r : Answer (Unit {0})) → CarryChangeSays rec n at bytes symbols symbols' r → Judged (record_numbers rec ++ carry_change_numbers hd n at (length bytes) symbols) (λ f. r ≡ Err f) (symbols' ≡ symbols)
    change_judged r says = by_outcome _ change_number says.promise.answered (λ some. rw (ne_eqb _ 0 some) at says.promise.written)

    change_returns : (r : ℕ) → CarryChangeGives rec n at bytes symbols symbols' r → Judged (record_numbers rec ++ carry_change_numbers hd n at (length bytes) symbols) (Returns r) (symbols' ≡ symbols)
    change_returns r g = by_number g.number change_number (λ some. rw (← g.number, ne_eqb r 0 some) at g.says.promise.written)

    -- what was changed
    module _ (low : all_below 256 bytes ≡ true) (says : CarryChangeSays rec n at bytes symbols symbols' (Ok tt)) where
      changed_symbols : (OtherSymbols hd symbols' → ⊥) × (length symbols' ≡ length symbols)
      changed_symbols =
          let after = carries_changed rec n at bytes symbols symbols' low says in (λ other. true≢false (sym ((symbols_mean hd symbols').1 other) ∙ after.symbols_good), after.as_many)

      changed_back : (before before' room room' : List ℕ) (r : Answer (Unit {0})) → length before ≡ n → CarryOutSays rec symbols before before' (Ok tt) → length room ≡ n → CarryOutSays rec symbols' room room' r
          → (r ≡ Ok tt) × (room' ≡ take at before' ++ (bytes ++ drop (length bytes) (drop at before')))
      unfolding part_replaced
      changed_back before before' room room' r many first fits second =
          let p = modulus_of hd in
          let zero = done_is _ _ first.promise.answered in
          let was : before' ≡ bytes_read p n symbols =
          first.promise.written ∙ ap (λ (f : ℕ). pick (eqb f 0) (bytes_read p (length before) symbols) before) zero ∙ ap (λ (m : ℕ). bytes_read p m symbols) many in
          let (done, is) = (carries_changed rec n at bytes symbols symbols' low says).back room room' r fits second in
          (done, is ∙ ap (part_replaced at bytes) (sym was))

  -- what was carried
  module _ (bytes out out' : List ℕ) (low : all_below 256 bytes ≡ true) (says : CarryInSays rec bytes out out' (Ok tt)) where
    symbols : OtherSymbols hd out' → ⊥
    symbols other = true≢false (sym ((symbols_mean hd out').1 other) ∙ (carries rec bytes out out' low says).symbols_good)

    bytes_back : (room room' : List ℕ) (r : Answer (Unit {0})) → length room ≡ length bytes → CarryOutSays rec out' room room' r → (r ≡ Ok tt) × (room' ≡ bytes)
    bytes_back = (carries rec bytes out out' low says).back

  recovered : (bytes out symbols rest : List ℕ) (l : ℕ) (old shares nodes back back' room room' : List ℕ) (r : Answer (Unit {0})) → all_below 256 bytes ≡ true → all_below 256 (symbols ++ rest) ≡ true
      → CarryInSays rec bytes out symbols (Ok tt) → EncodeSays rec l (symbols ++ rest) old shares (Ok tt) → RecoverSays rec l nodes (cut_of hd l nodes shares) back back' (Ok tt)
      → length room ≡ length bytes → CarryOutSays rec (take (length symbols) back') room room' r → (r ≡ Ok tt) × (room' ≡ bytes)
  recovered bytes out symbols rest l old shares nodes back back' room room' r low message_low carried encoded recovering fits says =
      let whole = round_trips.recover rec l (symbols ++ rest) old shares nodes back back' message_low encoded recovering in
      let front : take (length symbols) back' ≡ symbols = ap (take (length symbols)) whole ∙ take-append_seam symbols rest in
      bytes_back bytes out symbols low carried room room' r fits (rw front at says)

one_symbol : (rec : List ℕ) (n at b : ℕ) (symbols symbols' : List ℕ) → modulus_of (header_of rec) ≢ 0 → CarryChangeSays rec n at (b ∷ []) symbols symbols' (Ok tt)
    → let p = modulus_of (header_of rec) in let xs = symbols_of 2 symbols in symbol_then p at b xs < p
    → symbols_of 2 symbols' ≡ set xs (word_place p at) (symbol_then p at b xs)
unfolding group_words
one_symbol rec n at b symbols symbols' prime says good = one_changed rec n at b symbols symbols' prime says good

module _ (n k : ℕ) where
  choose_judged : (out out' : List ℕ) (r : Answer ℕ) → ChooseSays n k out out' r → Judged (choose_numbers n k (length out)) (λ f. r ≡ Err f) (out' ≡ out)
  choose_judged out out' r says = by_outcome _ (choose_tells n k (length out)) says.answered (λ some. rw (ne_eqb _ 0 some) at says.written)

  choose_returns : (out : List ℕ) (len : ℕ) (out' : List ℕ) (len' r : ℕ) → ChooseGives n k out len out' len' r → Judged (choose_numbers n k (length out)) (Returns r) ((out' ≡ out) × (len' ≡ len))
  choose_returns out len out' len' r g =
      by_number g.number (choose_tells n k (length out))
      (λ some. (rw (← g.number, ne_eqb r 0 some) at g.says.written, rw (ne_eqb r 0 some) at g.len_is))

  chosen : 2 ≤ n → n ≤ 255 → 0 < k → k ≤ n → (out out' : List ℕ) (count : ℕ) → ChooseSays n k out out' (Ok count) → ChosenWell n k (take count out')
  chosen two byte some fits out out' count says =
      let record_is = chosen_record n k in
      let zero = done_is (choose_fault n k (length out)) _ says.answered in
      let long : count ≡ length record_is = value_is _ _ says.answered in
      let written : out' ≡ record_is ++ drop (length record_is) out = rw zero at says.written in
      let front : take count out' ≡ record_is = rw (long, written) (take-append_seam record_is (drop (length record_is) out)) in
      rw front (chosen_well n k two byte some fits)

pub bytes_in_symbols : BytesInSymbols
bytes_in_symbols =
    record {
      length_judged = length_judged;
      in_judged = in_judged;
      out_judged = out_judged;
      change_judged = change_judged;
      choose_judged = choose_judged;
      length_returns = length_returns;
      in_returns = in_returns;
      out_returns = out_returns;
      change_returns = change_returns;
      choose_returns = choose_returns;
      lengths = lengths;
      symbols = λ rec bytes out out' low says. symbols rec bytes out out' low says;
      bytes_back = λ rec bytes out out' room room' r low says fits read. bytes_back rec bytes out out' low says room room' r fits read;
      changed_symbols = λ rec n at bytes symbols symbols' low says. changed_symbols rec n at bytes symbols symbols' low says;
      changed_back = λ rec n at bytes symbols symbols' before before' room room' r low says many first fits second. changed_back rec n at bytes symbols symbols' low says before before' room room' r many first fits second;
      one_symbol = one_symbol;
      recovered = recovered;
      chosen = chosen;
    }
