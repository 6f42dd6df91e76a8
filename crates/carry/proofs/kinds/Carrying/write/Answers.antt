-- `Carrying::write` meets its contract, by the kind of field.
use Rattle.std.proofs.Common.{sym}
use Rattle.carrying.specs.Carrying.{carried_bytes, carried_length}
use Rattle.carry.specs.Inner.Kinds.{field_of}
use Rattle.carry.proofs.Accepts.{some_prime}
use Rattle.carry.proofs.kinds.Carrying.write.Goals as goal

pub copy-requires : goal.copy-requires
unfolding carried_length field_of
copy-requires c = sym (rw c.in-Bytes.is at c.requires)

pub returns-in-Bytes : goal.returns-in-Bytes
unfolding carried_bytes field_of
returns-in-Bytes c = rw c.in-Bytes.is c.copy.ensures

pub close_groups-requires : goal.close_groups-requires
unfolding carried_length field_of
close_groups-requires c = rw (c.in-Words.is, some_prime c.in-Words.prime) at c.requires

pub returns-in-Words : goal.returns-in-Words
unfolding carried_bytes field_of
returns-in-Words c = rw (c.in-Words.is, some_prime c.in-Words.prime) c.close_groups.ensures
