-- `output` meets its contract: each arm sums by the lists of its kind.
use Rattle.std.proofs.Common.{◌≡◌, ℕ, ◌*◌, ap, ◌∙◌}
use Rattle.field.specs.Kinds.{modulus}
use Rattle.field.specs.Widths.{bytes_for}
use Rattle.field.proofs.KindLaws.{usable_prime}
use Rattle.tile_products.proofs.Arms.{lists_groups, prime_ready, prime_output, byte_one, byte_ready, byte_output}
use Rattle.tile_products.proofs.loaded.LoadedTile.output.Goals as goal

pub new-requires : goal.new-requires
new-requires c = let k = usable_prime _ (rw c.in-Prime.is at c.args.self.matrix.usable_field) in record { prime = k.1; fits = k.0 }

pub output-requires : goal.output-requires
unfolding modulus
output-requires c =
    let e = c.in-Prime.is in
    let s = c.args.self in
    let r = prime_ready _ (rw e at s.matrix.usable_field) (rw e at c.requires.made) in
    rw c.new.ensures record { few = s.matrix.few; weights = r.0; in_scale = r.1; tile_long = rw e at s.loaded.long; out_long = rw e at c.requires.out_long }

pub invariant_of-output : goal.invariant_of-output
invariant_of-output c =
    let e = c.in-Binary.is in
    let made = rw e at c.requires.made in
    record { slices = byte_ready _ (lists_groups made) (rw e at c.args.self.loaded) made }

pub output-requires-in-Binary : goal.output-requires-in-Binary
output-requires-in-Binary c =
    let one : bytes_for (modulus c.args.self.matrix.shape.field) ≡ 1 = rw c.in-Binary.is (byte_one _) in
    c.requires.out_long ∙ ap (λ (x : ℕ). x * 64) one

pub returns-in-Prime : goal.returns-in-Prime
returns-in-Prime c =
    let e = c.in-Prime.is in
    rw e (prime_output _ (rw e at c.args.self.matrix.usable_field) (rw c.new.ensures at c.output.ensures))

pub returns-in-Binary : goal.returns-in-Binary
returns-in-Binary c =
    let e = c.in-Binary.is in
    let s = c.args.self in
    rw e (byte_output _ (lists_groups (rw e at c.requires.made)) (rw e at s.loaded) s.matrix.few s.bytes c.output-in-Binary.ensures)
