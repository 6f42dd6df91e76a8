-- The answers of calls by the number that turned them away, and the tests of a call one after the other.
use Rattle.std.specs.Prelude.{◌≡◌, ◌<◌, ℕ, zero, suc, pred, Bool, true, false, Result, Ok, Err, MatchResult}
use Rattle.std.specs.Result.{IsErrAnd}
use Rattle.std.proofs.Common.{refl, sym, ap, ◌∙◌}
use Rattle.std.proofs.lemmas.Result.{err_from_is_err_and}
use native.Mathlib.Omega.{arith}
use Rattle.lists.specs.Choice.{first_of, when}
use Rattle.generator.specs.declared.refusal.Refusal.{Refusal}
use Rattle.generator.specs.declared.refusal.Refusal.TheVariants as R
use Rattle.generator.specs.Answers.{Answer, number, numbered, answer_of, outcome_of, fault_in}
use Rattle.generator.specs.Inner.Answers.{numbered_by}

-- the number of a refusal is not 0
some : (s : Refusal) → number s ≡ suc (pred (number s))
some R.Kind = refl
some R.Body = refl
some R.Field = refl
some R.Size = refl
some R.Root = refl
some R.Lanes = refl
some R.Length = refl
some R.Range = refl
some R.Twice = refl
some R.Symbol = refl
some R.Word = refl
some R.Stale = refl
some R.Far = refl
some R.Already = refl
some R.Many = refl
some R.Traces = refl
some R.Carry = refl

-- what the exit of a `?` returns
pub exit : {A : Type 0} (r : Result A Refusal) {e : Refusal} → IsErrAnd r (λ y. y ≡ e) → r ≡ Err e
exit r is = let p = err_from_is_err_and r is in p.1 ∙ ap Err p.2

-- a call that is done met no number and gives its value, and one that is turned away met that of its refusal
pub done_is : {A : Type 0} {x : A} (f : ℕ) (v : A) → Ok x ≡ answer_of f v → f ≡ 0
unfolding answer_of
done_is zero v e = refl
done_is (suc f) v e = absurd cc

pub value_is : {A : Type 0} {x : A} (f : ℕ) (v : A) → Ok x ≡ answer_of f v → x ≡ v
unfolding answer_of
value_is zero v e = cc
value_is (suc f) v e = absurd cc

pub refused_is : {A : Type 0} (f : ℕ) (v : A) (g : ℕ) → Err g ≡ answer_of f v → (g ≡ f) × (g ≡ 0 → ⊥)
unfolding answer_of
refused_is zero v g e = absurd cc
refused_is (suc f) v g e = (cc, λ z. absurd cc)

-- beside a number the answer is that number, and its number is the one that it was made of
pub answer_refused : {A : Type 0} (f : ℕ) (v : A) → (f ≡ 0 → ⊥) → answer_of f v ≡ Err f
unfolding answer_of
answer_refused zero v other = absurd (other refl)
answer_refused (suc f) v other = refl

pub answer_number : {A : Type 0} (f : ℕ) (v : A) → fault_in (answer_of f v) ≡ f
unfolding answer_of
answer_number zero v = refl
answer_number (suc f) v = refl

-- the answer where a number is met
met_first : (bad : Bool) (s : Refusal) (rest : ℕ) → bad ≡ true → Err (number s) ≡ outcome_of (first_of (when bad (number s)) rest)
unfolding answer_of
met_first bad s rest holds = rw (holds, some s)

met_last : (bad : Bool) (s : Refusal) → bad ≡ true → Err (number s) ≡ outcome_of (when bad (number s))
unfolding answer_of
met_last bad s holds = rw (holds, some s)

passed_last : (bad : Bool) (n : ℕ) → bad ≡ false → Ok tt ≡ outcome_of (when bad n)
unfolding answer_of
passed_last bad n fails = rw fails

-- a test whose condition holds turns the call away
pub met : {t bad : Bool} (r : Result (Unit {0}) Refusal) {e s : Refusal} → t ≡ bad → (t ≡ true) × (e ≡ s) → IsErrAnd r (λ y. y ≡ e) → (rest : ℕ) → numbered r ≡ outcome_of (first_of (when bad (number s)) rest)
met {bad = bad} r {s = s} test holds left rest = rw (exit r left, holds.1) (met_first bad s rest (sym test ∙ holds.0))

-- the tests after one whose condition fails
pub passed : {t bad : Bool} {a : Answer (Unit {0})} (n rest : ℕ) → t ≡ bad → t ≡ false → a ≡ outcome_of rest → a ≡ outcome_of (first_of (when bad n) rest)
passed n rest test fails after = rw (sym test ∙ fails) after

-- the last test
pub last : {t bad : Bool} (r : Result (Unit {0}) Refusal) (s : Refusal) → t ≡ bad → MatchResult r (λ _. t ≡ false) (λ e. (t ≡ true) × (e ≡ s)) → numbered r ≡ outcome_of (when bad (number s))
last {bad = bad} (Ok x) s test fails = passed_last bad (number s) (sym test ∙ fails)
last {bad = bad} (Err e) s test holds = rw holds.1 (met_last bad s (sym test ∙ holds.0))

-- what `grind` needs to go through the tests of a call, one after the other
pub when_met : (bad : Bool) (n : ℕ) → bad ≡ true → when bad n ≡ n
when_met bad n holds = rw holds refl

pub when_not : (bad : Bool) (n : ℕ) → bad ≡ false → when bad n ≡ 0
when_not bad n fails = rw fails refl

pub first_none : (a b : ℕ) → a ≡ 0 → first_of a b ≡ b
first_none a b none = rw none refl

pub turned_away : {A : Type 0} (f : ℕ) (v : A) → 0 < f → answer_of f v ≡ Err f
turned_away f v other = answer_refused f v (λ none. omega (arith, other, none))

pub done : {A : Type 0} (f : ℕ) (v : A) → f ≡ 0 → answer_of f v ≡ Ok v
unfolding answer_of
done f v none = rw none refl

pub left : {A : Type 0} (r : Result A Refusal) (e : Refusal) → IsErrAnd r (λ y. y ≡ e) → numbered r ≡ Err (number e)
left r e is = ap numbered (exit r is)

pub ruleset tests = (when_met, when_not, first_none, turned_away, done, left)

-- the same where the tests give a value, and come after others that give one
pub left_by : {A B : Type 0} (g : A → B) (r : Result A Refusal) (e : Refusal) → IsErrAnd r (λ y. y ≡ e) → numbered_by g r ≡ Err (number e)
left_by g r e is = ap (numbered_by g) (exit r is)

pub refused_first : {A : Type 0} (f rest g : ℕ) (v : A) → Err g ≡ answer_of f v → first_of f rest ≡ f
unfolding answer_of
refused_first zero rest g v e = absurd cc
refused_first (suc f) rest g v e = refl

pub done_first : {A : Type 0} {x : A} (f rest : ℕ) (v : A) → Ok x ≡ answer_of f v → first_of f rest ≡ rest
unfolding answer_of
done_first zero rest v e = refl
done_first (suc f) rest v e = absurd cc

pub done_gives : {A : Type 0} {x : A} (f : ℕ) (v : A) → Ok x ≡ answer_of f v → answer_of f v ≡ Ok v
unfolding answer_of
done_gives zero v e = refl
done_gives (suc f) v e = absurd cc

pub ruleset giving_tests = (when_met, when_not, first_none, turned_away, done, left_by, refused_first, done_first, done_gives)
