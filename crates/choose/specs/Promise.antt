-- A record for n nodes of which k are needed that carries bytes: the numbers that turn the call away, what it promises, and what holds of the record.
use Rattle.generator.specs.Answers.{Answer, answer_of}
use Rattle.std.specs.Prelude.{◌≡◌, Bool, true, false, ◌||◌, List, [], ◌∷◌, ◌++◌, ℕ, ◌/◌, ◌%◌, ◌≤◌, ◌<◌, eqb, ltb, length, drop}
use Rattle.lists.specs.Choice.{pick, first_of, when}
use Rattle.field.specs.Primes.{is_prime}
use Rattle.generator.specs.Records.{header_of, modulus_of, record_fault}
use Rattle.refusals.specs.Conditions.{length_bad}
use Rattle.carrying.specs.Carrying.{carries_none}
use Rattle.choose.specs.Table.{prime_for, root_for}

-- kind 2 where there is no prime for n, else kind 3
unfoldable pub chosen_record : ℕ → ℕ → List ℕ
chosen_record n k =
    pick (eqb (prime_for n) 0)
    (2 ∷ root_for n ∷ n ∷ k ∷ [])
    (3 ∷ prime_for n / 256 ∷ prime_for n % 256 ∷ root_for n / 256 ∷ root_for n % 256 ∷ n ∷ k ∷ [])

-- number 4, as a record has it: n below 2 or no byte, k zero, or k above n
unfoldable pub asked_bad : ℕ → ℕ → Bool
asked_bad n k = ((ltb n 2 || ltb 255 n) || eqb k 0) || ltb n k

-- then the room, 7 bytes
unfoldable pub choose_fault : ℕ → ℕ → ℕ → ℕ
choose_fault n k out_len = first_of (when (asked_bad n k) 4) (when (length_bad 7 out_len) 8)

-- how many bytes the record has, or the number; the record, at the front of the room, and nothing is written beside a number
pub record ChoosePromise (n k : ℕ) (out out' : List ℕ) (answer : Answer ℕ) (f : ℕ) : Type 0 where
  pub answered : answer ≡ answer_of f (length (chosen_record n k))
  pub written : out' ≡ pick (eqb f 0) (chosen_record n k ++ drop (length (chosen_record n k)) out) out

abbrev pub ChooseSays : ℕ → ℕ → List ℕ → List ℕ → Answer ℕ → Type 0
ChooseSays n k out out' answer = ChoosePromise n k out out' answer (choose_fault n k (length out))

-- what holds of the record: it is accepted, has this n and this k, and carries bytes, as they are where n divides 255; else no larger prime leaves 1 modulo n
pub record ChosenWell (n k : ℕ) (rec : List ℕ) : Type 0 where
  pub accepted : record_fault rec ≡ 0
  pub nodes : (header_of rec).n ≡ n
  pub needed : (header_of rec).k ≡ k
  pub carries : carries_none (modulus_of (header_of rec)) ≡ false
  pub bytes : 255 % n ≡ 0 → modulus_of (header_of rec) ≡ 0
  pub best : (255 % n ≡ 0 → ⊥) → (p : ℕ) → is_prime p ≡ true → p % n ≡ 1 → p < 65536 → p ≤ modulus_of (header_of rec)
