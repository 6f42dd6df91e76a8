-- `combine_prime` meets its contract: the symbols of a prime up to 256 are bytes, those of a larger one have two.
use mathlib.Core.Path.{◌≡◌, refl, ap, ◌∙◌}
use mathlib.Core.Bool.{true}
use Prim.Native.Nat.{ℕ, ◌*◌, ◌≤◌, ◌<◌}
use native.Mathlib.Omega.{arith}
use native.Mathlib.Nat.{one-mul}
use lib.ListN.{length}
use Rattle.field.specs.Fields.{size_of}
use Rattle.field.specs.Kinds.{modulus}
use Rattle.field.specs.Primes.{is_prime}
use Rattle.field.specs.Widths.{bytes_for}
use Rattle.field.proofs.KindLaws.{usable_prime}
use Rattle.field.proofs.Widths.{one_byte, two_bytes}
use Rattle.row_sums.specs.Inner.Combined.{TileRows}
use Rattle.row_sums.proofs.Combined.{other_row}
use Rattle.row_sums.proofs.TileSums.{narrow_rows, narrow_sums, wide_rows, wide_sums}
use Rattle.row_sums.proofs.field_terms.FieldTerms.combine_prime.Goals as goal
use Rattle.row_sums.proofs.field_terms.FieldTerms.combine_prime.Goals.{Start}

-- the prime, in 16 bits
prime : (c : Start) → let p = c.args.f.p in (p ≤ 65521) × (is_prime p ≡ true) × (size_of p ≡ p)
prime c = usable_prime _ (rw c.requires.0 at c.args.self.weighted.usable_field)

-- what is known over a prime field
tile : (c : Start) → let p = c.args.f.p in let t = c.args.self.terms in TileRows p (length t.weights.now) t.lanes t.weights.now t.rows.now (bytes_for p * t.lanes)
unfolding modulus
tile c = rw c.requires.0 at c.args.self.weighted.tile

-- the bytes of a symbol in either case
one : (c : Start) → c.args.f.p ≤ 256 → bytes_for c.args.f.p ≡ 1
one c few = one_byte c.args.f.p (rw (prime c).2 few)

two : (c : Start) → 256 < c.args.f.p → bytes_for c.args.f.p ≡ 2
two c many = two_bytes c.args.f.p (rw (prime c).2 many)

pub overflow_cast-p : goal.overflow_cast-p
overflow_cast-p c = omega (arith, (prime (goal.at.overflow_cast-p c).Start).0)

pub invariant_of-combine : goal.invariant_of-combine
invariant_of-combine c =
    let at = goal.at.invariant_of-combine c in
    let p = prime at.Start in
    record {
      prime = p.1;
      fits = c.if-p-le256.true;
      symbols = rw p.2 at (other_row (narrow_rows _ _ _ _ _ _ (tile at.Start) (one at.Start c.if-p-le256.true)) c.args.self.terms.lanes refl);
    }

pub combine-requires : goal.combine-requires
combine-requires c =
    let at = goal.at.combine-requires c in
    c.requires.1 ∙ ap (λ (w : ℕ). w * c.args.self.terms.lanes) (one at.Start c.if-p-le256.true) ∙ one-mul _

pub returns-then-p-le256 : goal.returns-then-p-le256
returns-then-p-le256 c =
    let at = goal.at.returns-then-p-le256 c in c.combine.ensures ∙ narrow_sums _ _ _ _ _ _ (tile at.Start) (one at.Start c.if-p-le256.true)

pub invariant_of-combine-else-p-le256 : goal.invariant_of-combine-else-p-le256
invariant_of-combine-else-p-le256 c =
    let at = goal.at.invariant_of-combine-else-p-le256 c in
    record { some_modulus = omega arith; two_rows = wide_rows _ _ _ _ _ _ (tile at.Start) (two at.Start (omega arith)) }

pub combine-requires-else-p-le256 : goal.combine-requires-else-p-le256
combine-requires-else-p-le256 c =
    let at = goal.at.combine-requires-else-p-le256 c in
    ((tile at.Start).few_lanes, c.requires.1 ∙ ap (λ (w : ℕ). w * c.args.self.terms.lanes) (two at.Start (omega arith)))

pub returns-else-p-le256 : goal.returns-else-p-le256
returns-else-p-le256 c =
    let at = goal.at.returns-else-p-le256 c in
    c.combine-else-p-le256.ensures ∙ wide_sums _ _ _ _ _ _ (tile at.Start) (two at.Start (omega arith))
