-- A record as it was read.
use Rattle.std.specs.Prelude.{Result, Ok, Err}
use Rattle.generator.specs.declared.Header.{Header}
use Rattle.generator.specs.declared.code.Code.{Code}
use Rattle.generator.specs.declared.refusal.Refusal.{Refusal}
use Rattle.generator.specs.Answers.{Answer, number}

-- what the code's record holds, or the number of the refusal
abbrev pub read_of : Result Code Refusal → Answer Header
read_of (Ok code) = Ok code.header
read_of (Err refusal) = Err (number refusal)
