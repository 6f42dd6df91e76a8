-- The text of a comparison: what the plain and the balanced layout of a record cost, and the least that any layout can.
-- A layout's writes are the nodes that a changed symbol alters; the reads of a node are the symbols that it depends on.
-- That the figures are those of the layouts is `Compared` (generator, specs/Comparison). Then the bits that are moved for a symbol of a lost node.
use Rattle.std.specs.Prelude.{Ok, Err}
use Rattle.generator.specs.Answers.{Answer}
use Rattle.std.specs.Prelude.{◌≡◌, List, [], ◌∷◌, ◌++◌, ℕ, ◌-◌, ◌*◌, eqb, ltb, get_or}
use Rattle.lists.specs.Choice.{pick}
use Rattle.generator.specs.declared.Header.{Header}
use Rattle.generator.specs.Records.{header_of, modulus_of, record_fault, width, distance, low_reads, high_reads}
use Rattle.generator.specs.Comparison.{plain_greatest}
use Rattle.traces.specs.Repairs.{bits}
use Rattle.traces.specs.Claims.{moved_by_traces}
use Rattle.repair_bound.specs.Additive.{RepairBound, least_bits}
use Rattle.repair_bound.specs.Prices.{TracePrice}
use Rattle.text.specs.Text.{ascii, field, line}

-- a line of costs: words and the writes, then the reads
unfoldable pub cost_line : List ℕ → ℕ → List ℕ → List ℕ
cost_line words writes reads = words ++ (field writes ++ line (ascii " reads") reads)

-- the least and the greatest reads of the plain layout: a node that holds a symbol of the message reads that one
unfoldable pub plain_line : Header → List ℕ
plain_line h = cost_line (ascii "plain writes") (distance h) (1 ∷ plain_greatest h ∷ [])

-- the least and the greatest reads of the balanced layout: k·d / n rounded down and up
unfoldable pub balanced_line : Header → List ℕ
balanced_line h = cost_line (ascii "balanced writes") (distance h) (low_reads h ∷ high_reads h ∷ [])

-- what no layout can go below: the writes, and the reads of the busiest node
unfoldable pub bound_line : Header → List ℕ
bound_line h = cost_line (ascii "bound writes") (distance h) (high_reads h ∷ [])

-- the bits that are moved for a symbol of a lost node by k whole symbols, of a byte or two each
unfoldable pub whole_part : Header → List ℕ
whole_part h = ascii "rebuild bits" ++ field (8 * width h * h.k)

-- by traces, where there is such a repair
unfoldable pub traces_part : Header → List ℕ
traces_part h = pick (eqb (bits h 0) 0) [] (ascii " traces" ++ field (moved_by_traces h))

-- what no additive repair goes below, over the field of 256 elements
unfoldable pub least_part : Header → List ℕ
least_part h = pick (eqb (modulus_of h) 0) (ascii " least" ++ field (least_bits (h.n - 1) h.k)) []

-- the line of a rebuild; with k = n the other nodes do not give a node back, and there is none
unfoldable pub rebuild_line : Header → List ℕ
rebuild_line h = pick (ltb h.k h.n) (whole_part h ++ (traces_part h ++ (least_part h ++ (10 ∷ [])))) []

-- the bits of an accepted record of kind 2 are those of repairs: no additive one moves fewer than the least, and that by traces, which is one, moves its own
pub record RebuildPriced (rec : List ℕ) : Type 0 where
  pub least : record_fault rec ≡ 0 → get_or rec 0 0 ≡ 2 → RepairBound (header_of rec)
  pub traces : record_fault rec ≡ 0 → get_or rec 0 0 ≡ 2 → TracePrice (header_of rec)

-- the comparison of a record: n and k, then the lines of costs and of a rebuild; or the number that turned it away
unfoldable pub comparison_for : Answer Header → List ℕ
comparison_for (Err f) = line (ascii "refused") (f ∷ [])
comparison_for (Ok h) = line (ascii "compare") (h.n ∷ h.k ∷ []) ++ (plain_line h ++ (balanced_line h ++ (bound_line h ++ rebuild_line h)))
