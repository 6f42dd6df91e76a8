-- The text of a record for n nodes of which k are needed: its bytes, and what it costs.
use Rattle.std.specs.Prelude.{Ok, Err}
use Rattle.generator.specs.Answers.{Answer, answer_of}
use Rattle.std.specs.Prelude.{List, [], ◌∷◌, ◌++◌, ℕ, ◌+◌, ◌*◌, eqb}
use Rattle.lists.specs.Choice.{pick}
use Rattle.generator.specs.declared.Header.{Header}
use Rattle.generator.specs.Records.{modulus_of, distance, low_reads, high_reads, record_of}
use Rattle.carrying.specs.Carrying.{group_words}
use Rattle.choose.specs.Promise.{chosen_record, choose_fault}
use Rattle.text.specs.Text.{ascii, line}

-- so many bytes on all nodes together ..
unfoldable pub stored_bytes : Header → ℕ
stored_bytes h = pick (eqb (modulus_of h) 0) h.n (h.n * (group_words (modulus_of h) + 1))

-- .. for so many bytes of an image
unfoldable pub image_bytes : Header → ℕ
image_bytes h = pick (eqb (modulus_of h) 0) h.k (h.k * group_words (modulus_of h))

-- the nodes that a changed symbol writes; the least and the greatest number of symbols that a node depends on; the storage; how many whole shares a
-- rebuild reads
unfoldable pub costs_of : Header → List ℕ
costs_of h =
    line (ascii "writes") (distance h ∷ [])
    ++ (line (ascii "reads") (low_reads h ∷ high_reads h ∷ [])
    ++ (line (ascii "storage") (stored_bytes h ∷ image_bytes h ∷ []) ++ line (ascii "rebuild") (h.k ∷ [])))

unfoldable pub costs_for : Answer Header → List ℕ
costs_for (Ok h) = costs_of h
costs_for (Err f) = []

-- the record that two bytes ask for, n and k; more or fewer bytes meet 4, as n and k outside their ranges do
unfoldable pub record_asked : List ℕ → Answer (List ℕ)
record_asked [] = Err 4
record_asked (n ∷ []) = Err 4
record_asked (n ∷ k ∷ []) = answer_of (choose_fault n k 7) (chosen_record n k)
record_asked (n ∷ k ∷ x ∷ xs) = Err 4

-- its text
unfoldable pub record_for : Answer (List ℕ) → List ℕ
record_for (Ok rec) = line (ascii "record") rec ++ costs_for (record_of rec)
record_for (Err f) = line (ascii "refused") (f ∷ [])
