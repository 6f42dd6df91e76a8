-- What a test answers that gives a value: something of the value, or a number.
use Rattle.std.specs.Prelude.{Result, Ok, Err}
use Rattle.generator.specs.declared.refusal.Refusal.{Refusal}
use Rattle.generator.specs.Answers.{Answer, number}

-- a result with what g gives of the value, and with the refusal's number in its place
abbrev pub numbered_by : {A B : Type 0} → (A → B) → Result A Refusal → Answer B
numbered_by g (Ok v) = Ok (g v)
numbered_by g (Err refusal) = Err (number refusal)
