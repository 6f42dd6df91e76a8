-- What two bytes ask for: the record that was written at the front of the room, or the number.
use Rattle.std.specs.Prelude.{Result, Ok, Err, MatchResult}
use Rattle.std.proofs.Math.Seq.{take-append_seam}
use mathlib.Core.Path.{◌≡◌, refl, sym}
use mathlib.Core.List.{List, [], ◌∷◌, ◌++◌}
use Prim.Native.Nat.{ℕ, ◌≤◌, ◌<◌}
use native.Mathlib.Omega.{arith}
use lib.Dec.{eqb}
use lib.ListN.{length, get_or, take, drop}
use Rattle.lists.proofs.Cases.{by_test}
use Rattle.generator.specs.declared.refusal.Refusal.{Refusal}
use Rattle.generator.specs.Answers.{number, numbered, answer_of}
use Rattle.generator.proofs.Answered.{done_is, value_is, refused_is, answer_refused}
use Rattle.choose.specs.Table.{prime_for}
use Rattle.choose.specs.Promise.{chosen_record, choose_fault, ChooseSays}
use Rattle.record_text.specs.Records.{record_asked}

-- a record has seven bytes at most
few_bytes : (n k : ℕ) → length (chosen_record n k) ≤ 7
unfolding chosen_record
few_bytes n k = by_test (eqb (prime_for n) 0) (λ e. rw e (omega arith)) (λ e. rw e (omega arith))

-- two bytes
pub two_bytes : (s : List ℕ) → 2 ≤ length s → length s < 3 → s ≡ get_or s 0 0 ∷ get_or s 1 0 ∷ []
two_bytes [] least most = absurd (omega arith)
two_bytes (x ∷ []) least most = absurd (omega arith)
two_bytes (x ∷ y ∷ []) least most = refl
two_bytes (x ∷ y ∷ z ∷ s) least most = absurd (omega arith)

-- fewer, and more
pub few_asked : (s : List ℕ) → length s < 2 → Err 4 ≡ record_asked s
unfolding record_asked
few_asked [] few = refl
few_asked (x ∷ []) few = refl
few_asked (x ∷ y ∷ s) few = absurd (omega arith)

pub many_asked : (s : List ℕ) → 3 ≤ length s → Err 4 ≡ record_asked s
unfolding record_asked
many_asked [] many = absurd (omega arith)
many_asked (x ∷ []) many = absurd (omega arith)
many_asked (x ∷ y ∷ []) many = absurd (omega arith)
many_asked (x ∷ y ∷ z ∷ s) many = refl

module _ (n k : ℕ) (out out' : List ℕ) (long : length out ≡ 7) where
  abbrev given : List ℕ
  given = n ∷ k ∷ []

  pub pair_asked : (r : Result ℕ Refusal) → ChooseSays n k out out' (numbered r) → MatchResult r (λ size. (size ≤ 7) × (Ok (take size out') ≡ record_asked given)) (λ e. Err (number e) ≡ record_asked given)
  unfolding record_asked answer_of
  pair_asked (Ok size) says =
      let rec = chosen_record n k in
      let zero = done_is (choose_fault n k (length out)) _ says.answered in
      let is : size ≡ length rec = value_is _ _ says.answered in
      let written : out' ≡ rec ++ drop (length rec) out = rw zero at says.written in
      let none : choose_fault n k 7 ≡ 0 = rw long at zero in
      let front : take size out' ≡ rec = rw (is, written) (take-append_seam rec (drop (length rec) out)) in
      (rw is (few_bytes n k), rw (none, front) refl)
  pair_asked (Err e) says =
      let (same, some) = refused_is (choose_fault n k (length out)) _ (number e) says.answered in
      let met : number e ≡ choose_fault n k 7 = rw long at same in
      rw (← met) (sym (answer_refused (number e) _ some))
