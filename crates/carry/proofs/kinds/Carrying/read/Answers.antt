-- `Carrying::read` meets its contract, by the kind of field.
use Rattle.carrying.specs.Carrying.{bytes_back, carried_length}
use Rattle.carry.specs.Inner.Kinds.{field_of}
use Rattle.carry.proofs.Accepts.{some_prime}
use Rattle.carry.proofs.kinds.Carrying.read.Goals as goal

pub copy-requires : goal.copy-requires
unfolding carried_length field_of
copy-requires c = rw c.in-Bytes.is at c.requires

pub returns-in-Bytes : goal.returns-in-Bytes
unfolding bytes_back field_of
returns-in-Bytes c = rw c.in-Bytes.is c.copy.ensures

pub open_groups-requires : goal.open_groups-requires
unfolding carried_length field_of
open_groups-requires c = rw (c.in-Words.is, some_prime c.in-Words.prime) at c.requires

pub returns-in-Words : goal.returns-in-Words
unfolding bytes_back field_of
returns-in-Words c = rw (c.in-Words.is, some_prime c.in-Words.prime) c.open_groups.ensures
