-- Sheets of single records, in a table that one statement covers.
use mathlib.Core.Path.{◌≡◌, refl}
use mathlib.Core.List.{List, [], ◌∷◌}
use Prim.Native.Nat.{ℕ}
use Prim.Native.String.{String}
use Rattle.lists.specs.Rows.{from, rows_from}
use Rattle.lists.proofs.All.{All}
use Rattle.field.specs.Primes.{divides_some, is_prime}
use Rattle.field.specs.Bytes.{times_x, product_from, product}
use Rattle.field.specs.Fields.{size_of, add, sub, mul, power, order_from, order_of}
use Rattle.field.specs.Kinds.{modulus}
use Rattle.generator.specs.Records.{header_of, distance, low_reads, high_reads, kind_bad, body_bad, prime_in, field_bad, size_bad, root_bad, header_fault, record_fault, judged, record_of}
use Rattle.generator.specs.Shifts.{gcd_from, gcd, shifts_from, even_shifts, negative, period, laid_at, laid_shifts, is_even, shifts_of, firsts_of}
use Rattle.generator.specs.Generator.{base_from, base_at, entry_at, entry}
use Rattle.text.specs.Text.{ascii, decimal, field, fields, line}
use Rattle.sheet_text.specs.Sheet.{roundings, sheet_for}

-- records, each with the text of its sheet
unfoldable pub samples : List (List ℕ × String)
samples =
    (1 ∷ 7 ∷ 3 ∷ 6 ∷ 4 ∷ [], "plan 6 4 3 2\nrow 0 0 0 4 6 3 0 0 0\nrow 1 1 5 6 3 0 0 0 4\nrow 2 3 3 0 0 0 4 6 3\nrow 3 4 2 0 0 4 6 3 0\n")
    ∷ (2 ∷ 214 ∷ 3 ∷ 3 ∷ [], "plan 3 3 1 1\nrow 0 0 0 214 0 0\nrow 1 1 2 0 0 214\nrow 2 2 1 0 214 0\n")
    ∷ (1 ∷ 7 ∷ 3 ∷ 6 ∷ 5 ∷ [], "plan 6 5 2 1 2\nrow 0 0 0 2 4 0 0 0 0\nrow 1 4 2 0 0 2 4 0 0\nrow 2 2 4 0 0 0 0 2 4\nrow 3 5 1 0 2 4 0 0 0\nrow 4 3 3 0 0 0 2 4 0\n")
    ∷ (1 ∷ 7 ∷ 3 ∷ 6 ∷ 2 ∷ [], "plan 6 2 5 1 2\nrow 0 0 0 2 1 5 3 4 0\nrow 1 1 5 1 5 3 4 0 2\n")
    ∷ ([], "refused 1\n")
    ∷ (1 ∷ 7 ∷ 3 ∷ 6 ∷ 4 ∷ 0 ∷ [], "refused 2\n")
    ∷ (1 ∷ 9 ∷ 2 ∷ 6 ∷ 3 ∷ [], "refused 3\n")
    ∷ (1 ∷ 7 ∷ 3 ∷ 6 ∷ 7 ∷ [], "refused 4\n")
    ∷ (1 ∷ 7 ∷ 2 ∷ 6 ∷ 3 ∷ [], "refused 5\n")
    ∷ []

-- every case of the table holds
pub samples_hold : All (λ (c : List ℕ × String). sheet_for (record_of c.0) ≡ ascii c.1) samples
unfolding samples ascii decimal field fields line roundings sheet_for record_of judged record_fault header_fault kind_bad body_bad field_bad prime_in size_bad root_bad header_of distance low_reads high_reads firsts_of shifts_of is_even even_shifts shifts_from laid_shifts laid_at period negative gcd gcd_from entry entry_at base_at base_from from rows_from modulus size_of add sub mul power order_of order_from product product_from times_x is_prime divides_some
samples_hold = (refl, (refl, (refl, (refl, (refl, (refl, (refl, (refl, (refl, tt)))))))))
