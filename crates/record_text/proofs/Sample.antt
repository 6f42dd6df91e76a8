-- Texts of records that were record_asked for, in a table that one statement covers.
use mathlib.Core.Path.{◌≡◌, refl}
use mathlib.Core.List.{List, [], ◌∷◌}
use Prim.Native.Nat.{ℕ}
use Prim.Native.String.{String}
use Rattle.lists.proofs.All.{All}
use Rattle.field.specs.Bytes.{times_x, product_from, product}
use Rattle.field.specs.Fields.{size_of, mul, order_from, order_of}
use Rattle.field.specs.Kinds.{modulus}
use Rattle.generator.specs.Answers.{answer_of}
use Rattle.generator.specs.Records.{header_of, distance, low_reads, high_reads, kind_bad, body_bad, field_bad, size_bad, root_bad, header_fault, record_fault, judged, record_of}
use Rattle.refusals.specs.Conditions.{length_bad}
use Rattle.choose.specs.Table.{prime_table, root_table, prime_for, root_for}
use Rattle.choose.specs.Promise.{chosen_record, asked_bad, choose_fault}
use Rattle.text.specs.Text.{ascii, decimal, field, fields, line}
use Rattle.record_text.specs.Records.{stored_bytes, image_bytes, costs_of, costs_for, record_asked, record_for}

-- the bytes that ask and the text
pub data Case : Type 0 where
  prints : (given : List ℕ) (text : String) → Case

unfoldable pub Says : Case → Type 0
Says (prints given text) = record_for (record_asked given) ≡ ascii text

unfoldable pub samples : List Case
samples =
    prints (15 ∷ 10 ∷ []) "record 2 11 15 10\nwrites 6\nreads 4 4\nstorage 15 10\nrebuild 10\n"
    ∷ prints (3 ∷ 2 ∷ []) "record 2 214 3 2\nwrites 2\nreads 1 2\nstorage 3 2\nrebuild 2\n"
    ∷ prints (6 ∷ 7 ∷ []) "refused 4\n"
    ∷ prints (6 ∷ []) "refused 4\n"
    ∷ []

-- every case of the table holds
pub samples_hold : All Says samples
unfolding Says samples ascii decimal field fields line stored_bytes image_bytes costs_of costs_for record_asked record_for answer_of choose_fault asked_bad length_bad chosen_record prime_for root_for prime_table root_table record_of judged record_fault header_fault kind_bad body_bad field_bad size_bad root_bad header_of distance low_reads high_reads modulus size_of mul order_of order_from product product_from times_x
samples_hold = (refl, (refl, (refl, (refl, tt))))
