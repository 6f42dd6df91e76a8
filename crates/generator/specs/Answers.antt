-- What a call answers: a value, or the number of what turned it away.
use Rattle.std.specs.Prelude.{ℕ, zero, suc, Result, Ok, Err}
use Rattle.generator.specs.declared.refusal.Refusal.{Refusal}
use Rattle.generator.specs.declared.refusal.Refusal.TheVariants as R

-- a value, or a number
abbrev pub Answer : Type 0 → Type 0
Answer A = Result A ℕ

-- the number of a refusal
abbrev pub number : Refusal → ℕ
number R.Kind = 1
number R.Body = 2
number R.Field = 3
number R.Size = 4
number R.Root = 5
number R.Lanes = 7
number R.Length = 8
number R.Range = 9
number R.Twice = 10
number R.Symbol = 11
number R.Word = 12
number R.Stale = 13
number R.Far = 14
number R.Already = 15
number R.Many = 16
number R.Traces = 17
number R.Carry = 18

-- a result with the refusal's number in its place
abbrev pub numbered : {A : Type 0} → Result A Refusal → Answer A
numbered (Ok v) = Ok v
numbered (Err refusal) = Err (number refusal)

-- the answer of a call: its value, or the number that turned it away where that is not 0
unfoldable pub answer_of : {A : Type 0} → ℕ → A → Answer A
answer_of zero v = Ok v
answer_of (suc f) v = Err (suc f)

-- the answer of a call that only writes
abbrev pub outcome_of : ℕ → Answer (Unit {0})
outcome_of f = answer_of f tt

-- the number of an answer, 0 where the call was accepted
abbrev pub fault_in : {A : Type 0} → Answer A → ℕ
fault_in (Ok v) = 0
fault_in (Err f) = f
