-- What the documents fix of records and rows, with worked examples.
use mathlib.Core.Path.{refl}
use Rattle.lists.specs.Counting.{count_from}
use Rattle.lists.specs.Rows.{from}
use Rattle.field.specs.Primes.{divides_some, is_prime}
use Rattle.field.specs.Fields.{size_of, add, sub, mul, power, order_from, order_of}
use Rattle.field.specs.Kinds.{modulus}
use Rattle.generator.specs.Records.{header_of, distance, kind_bad, body_bad, prime_in, field_bad, size_bad, root_bad, header_fault, record_fault}
use Rattle.generator.specs.Shifts.{gcd_from, gcd, negative, period, laid_at, laid_shifts, is_even, shifts_of, firsts_of}
use Rattle.generator.specs.Generator.{base_from, base_at, entry_at, entry}
use Rattle.generator.specs.Codewords.{node_from, node_of, encoding}
use Rattle.generator.specs.Claims.{reads}
use Rattle.generator.specs.Pinned.{SixFive, WideCase, Pinned}
use Rattle.generator.proofs.Accepts.{faultless_sound}
use Rattle.generator.proofs.PinnedRecords.{one_byte_field, two_byte_field, two_byte_header, root}
use Rattle.generator.proofs.PinnedRows.{pinned_rows}

six_five : SixFive
unfolding header_of distance firsts_of shifts_of is_even laid_shifts laid_at period negative gcd gcd_from reads entry entry_at base_at base_from count_from from modulus size_of sub mul power
six_five = record { begins = refl; weights = refl }

wide_case : WideCase
unfolding record_fault header_fault kind_bad body_bad field_bad prime_in size_bad root_bad header_of distance shifts_of is_even laid_shifts laid_at period negative gcd gcd_from entry entry_at base_at base_from node_from node_of encoding from modulus size_of add sub mul power order_of order_from is_prime divides_some
wide_case = record { accepted = refl; field_is = refl; root_is = refl; shifts_are = refl; rows_are = refl; encodes = refl }

pub pinned : Pinned
pinned =
    record {
      one_byte_field = one_byte_field;
      two_byte_field = two_byte_field;
      two_byte_header = two_byte_header;
      root = root;
      rows = λ rec none. pinned_rows _ (faultless_sound rec none);
      six_five = six_five;
      wide_case = wide_case;
    }
