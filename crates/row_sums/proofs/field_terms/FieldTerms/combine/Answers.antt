-- `combine` meets its contract: each arm calls the loops of its kind.
use mathlib.Core.Path.{◌≡◌, refl, ap, ◌∙◌}
use Prim.Native.Nat.{ℕ, ◌*◌}
use native.Mathlib.Nat.{le_refl, one-mul}
use lib.ListN.{length}
use Rattle.field.specs.Fields.{size_of}
use Rattle.field.specs.Kinds.{modulus}
use Rattle.field.specs.Widths.{bytes_for}
use Rattle.field.proofs.Widths.{one_byte}
use Rattle.row_sums.specs.Inner.Combined.{TileRows}
use Rattle.row_sums.proofs.Combined.{other_row}
use Rattle.row_sums.proofs.TileSums.{narrow_rows, narrow_sums}
use Rattle.row_sums.proofs.field_terms.FieldTerms.combine.Goals as goal
use Rattle.row_sums.proofs.field_terms.FieldTerms.combine.Goals.{In-Binary}

-- the symbols of the field of 256 elements are bytes
one : bytes_for 0 ≡ 1
unfolding size_of
one = one_byte 0 (le_refl 256)

tile : (c : In-Binary) → let t = c.args.self.terms in TileRows 0 (length t.weights.now) t.lanes t.weights.now t.rows.now (bytes_for 0 * t.lanes)
unfolding modulus
tile c = rw c.in-Binary.is at c.args.self.weighted.tile

pub combine_prime-requires : goal.combine_prime-requires
unfolding modulus
combine_prime-requires c = (c.in-Prime.is, rw c.in-Prime.is at c.requires)

pub invariant_of-combine : goal.invariant_of-combine
unfolding size_of
invariant_of-combine c = record { bytes = other_row (narrow_rows _ _ _ _ _ _ (tile (goal.at.invariant_of-combine c).In-Binary) one) c.args.self.terms.lanes refl }

pub combine-requires : goal.combine-requires
unfolding modulus
combine-requires c = (rw c.in-Binary.is at c.requires) ∙ ap (λ (w : ℕ). w * c.args.self.terms.lanes) one ∙ one-mul _

pub returns-in-Prime : goal.returns-in-Prime
unfolding modulus
returns-in-Prime c = rw c.in-Prime.is c.combine_prime.ensures

pub returns-in-Binary : goal.returns-in-Binary
unfolding modulus
returns-in-Binary c = rw c.in-Binary.is (c.combine.ensures ∙ narrow_sums _ _ _ _ _ _ (tile (goal.at.returns-in-Binary c).In-Binary) one)
