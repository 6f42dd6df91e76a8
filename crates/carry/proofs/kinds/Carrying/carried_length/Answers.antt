-- `Carrying::carried_length` meets its contract, by the kind of field.
use Rattle.std.proofs.Common.{refl}
use Rattle.carrying.specs.Carrying.{carried_length}
use Rattle.carry.specs.Inner.Kinds.{field_of}
use Rattle.carry.proofs.Accepts.{some_prime}
use Rattle.carry.proofs.kinds.Carrying.carried_length.Goals as goal

pub returns-in-Bytes : goal.returns-in-Bytes
unfolding carried_length field_of
returns-in-Bytes c = rw c.in-Bytes.is refl

pub returns-in-Words : goal.returns-in-Words
unfolding carried_length field_of
returns-in-Words c = rw (c.in-Words.is, some_prime c.in-Words.prime) c.words_length.ensures
