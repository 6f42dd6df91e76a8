-- `Carrying::change` meets its contract, by the kind of field.
use native.Mathlib.Omega.{arith}
use lib.ListN.{length}
use Rattle.carrying.specs.Carrying.{carried_length}
use Rattle.carrying.specs.Changing.{changed_bytes}
use Rattle.carry.specs.Inner.Kinds.{field_of}
use Rattle.carry.proofs.Accepts.{some_prime}
use Rattle.carry.proofs.Changes.{words_fit, prime_symbols}
use Rattle.carry.proofs.kinds.Carrying.change.Goals as goal

pub replace-requires : goal.replace-requires
unfolding carried_length field_of
replace-requires c = let long = rw c.in-Bytes.is at c.requires.0 in omega (arith, long, c.requires.1)

pub returns-in-Bytes : goal.returns-in-Bytes
unfolding changed_bytes field_of
returns-in-Bytes c = rw c.in-Bytes.is c.replace.ensures

pub change_groups-requires : goal.change_groups-requires
unfolding carried_length field_of
change_groups-requires c =
    let long = rw (c.in-Words.is, some_prime c.in-Words.prime) at c.requires.0 in
    let good = rw c.in-Words.is at c.requires.2 in
    words_fit c.in-Words.prime c.args.n c.args.at (length c.args.bytes.now) c.args.symbols.now long c.requires.1 (prime_symbols c.in-Words.prime c.args.symbols.now good)

pub returns-in-Words : goal.returns-in-Words
unfolding changed_bytes field_of
returns-in-Words c = rw (c.in-Words.is, some_prime c.in-Words.prime) c.change_groups.ensures
