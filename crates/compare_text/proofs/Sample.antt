-- Comparisons of single records, in a table that one statement covers: where k = n the plain layout has no parity node, and no node is given back by the others.
use mathlib.Core.Path.{◌≡◌, refl}
use mathlib.Core.List.{List, [], ◌∷◌}
use Prim.Native.Nat.{ℕ}
use Prim.Native.String.{String}
use Rattle.lists.proofs.All.{All}
use Rattle.field.specs.Primes.{divides_some, is_prime}
use Rattle.field.specs.Bytes.{times_x, product_from, product}
use Rattle.field.specs.Fields.{size_of, mul, order_from, order_of}
use Rattle.field.specs.Kinds.{modulus}
use Rattle.field.specs.Widths.{bytes_for}
use Rattle.generator.specs.Records.{header_of, width, distance, low_reads, high_reads, kind_bad, body_bad, prime_in, field_bad, size_bad, root_bad, header_fault, record_fault, judged, record_of}
use Rattle.generator.specs.Comparison.{plain_greatest}
use Rattle.text.specs.Text.{ascii, decimal, field, fields, line}
use Rattle.traces.specs.Repairs.{bits_for, bits}
use Rattle.traces.specs.Claims.{moved_by_traces}
use Rattle.repair_bound.specs.Additive.{worth, line_bits, greatest, least_bits}
use Rattle.compare_text.specs.Comparison.{cost_line, plain_line, balanced_line, bound_line, whole_part, traces_part, least_part, rebuild_line, comparison_for}

-- a record and the text of its comparison
pub data Case : Type 0 where
  prints : (rec : List ℕ) (text : String) → Case

unfoldable pub Says : Case → Type 0
Says (prints rec text) = comparison_for (record_of rec) ≡ ascii text

unfoldable pub samples : List Case
samples =
    prints (1 ∷ 7 ∷ 3 ∷ 6 ∷ 4 ∷ []) "compare 6 4\nplain writes 3 reads 1 4\nbalanced writes 3 reads 2 2\nbound writes 3 reads 2\nrebuild bits 32\n"
    ∷ prints (1 ∷ 7 ∷ 3 ∷ 6 ∷ 1 ∷ []) "compare 6 1\nplain writes 6 reads 1 1\nbalanced writes 6 reads 1 1\nbound writes 6 reads 1\nrebuild bits 8\n"
    ∷ prints (2 ∷ 214 ∷ 3 ∷ 3 ∷ []) "compare 3 3\nplain writes 1 reads 1 1\nbalanced writes 1 reads 1 1\nbound writes 1 reads 1\n"
    ∷ prints (1 ∷ 7 ∷ 3 ∷ 6 ∷ 5 ∷ []) "compare 6 5\nplain writes 2 reads 1 5\nbalanced writes 2 reads 1 2\nbound writes 2 reads 2\nrebuild bits 40\n"
    ∷ prints (2 ∷ 38 ∷ 17 ∷ 1 ∷ []) "compare 17 1\nplain writes 17 reads 1 1\nbalanced writes 17 reads 1 1\nbound writes 17 reads 1\nrebuild bits 8 traces 64 least 2\n"
    ∷ prints (1 ∷ 7 ∷ 2 ∷ 6 ∷ 3 ∷ []) "refused 5\n"
    ∷ []

-- every case of the table holds
pub samples_hold : All Says samples
unfolding Says samples ascii decimal field fields line plain_greatest cost_line plain_line balanced_line bound_line whole_part traces_part least_part rebuild_line comparison_for width bytes_for bits bits_for moved_by_traces worth line_bits greatest least_bits record_of judged record_fault header_fault kind_bad body_bad field_bad prime_in size_bad root_bad header_of distance low_reads high_reads modulus size_of mul order_of order_from product product_from times_x is_prime divides_some
samples_hold = (refl, (refl, (refl, (refl, (refl, (refl, tt))))))
