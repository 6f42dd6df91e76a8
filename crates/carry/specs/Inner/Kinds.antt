-- What carries bytes, and the tests that find it.
use Rattle.std.specs.Prelude.{◌≡◌, ℕ, Result}
use Rattle.generator.specs.declared.Header.{Header}
use Rattle.generator.specs.declared.refusal.Refusal.{Refusal}
use Rattle.generator.specs.Records.{modulus_of}
use Rattle.generator.specs.Answers.{answer_of}
use Rattle.generator.specs.Inner.Answers.{numbered_by}
use Rattle.carry.specs.declared.kinds.Carrying.{Carrying}
use Rattle.carry.specs.declared.kinds.Carrying.TheVariants.{Bytes, Words}

-- its field: the prime, or 0 for the field of 256 elements
unfoldable pub field_of : Carrying → ℕ
field_of Bytes = 0
field_of (Words prime) = prime.p

-- what carries the bytes of a record where the number f of a call is 0, or the refusal that has the number
abbrev pub Tested : Result Carrying Refusal → Header → ℕ → Type 0
Tested r h f = numbered_by field_of r ≡ answer_of f (modulus_of h)
