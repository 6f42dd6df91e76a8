-- `fill_row` meets its contract: the lists are those of the weights.
use mathlib.Core.Path.{◌≡◌, refl, sym, ap, ◌∙◌}
use mathlib.Core.List.{List}
use Prim.Native.Nat.{ℕ, ◌*◌, ◌≤◌}
use native.Mathlib.Nat.{mul-one}
use native.Mathlib.Omega.{arith}
use borrow.Author.Rules.{rules}
use lib.ListN.{length, take}
use lib.Seq.{length-take-le}
use Rattle.lists.proofs.Numbers.{below_take}
use Rattle.generator.specs.Records.{modulus_of, size, width}
use Rattle.tile_products.specs.Inner.Products.{groups_of}
use Rattle.tile_products.specs.Inner.Matrices.{Begun, Made}
use Rattle.tile_products.proofs.Beginning.{begun_none, begun_made}
use Rattle.block_products.specs.Inner.Ways.{side_of, out_bytes, result_bytes}
use Rattle.recover.proofs.OneRow.{row_combined, combined_front}
use Rattle.recover.proofs.shares.Weighted.fill_row.Goals as goal
use Rattle.recover.proofs.shares.Weighted.fill_row.Goals.{After-prepare, Start}

few : (c : Start) → c.args.self.code.header.k ≤ 255
few c = let sound = c.args.self.code.sound in omega (arith, sound.fits, sound.byte)

-- there are weights for all listed nodes
enough : (c : Start) → c.args.self.code.header.k ≤ length c.args.self.weights.now
enough c = omega (arith, few c, c.args.self.long)

front : (c : Start) → let k = c.args.self.code.header.k in length (take k c.args.self.weights.now) ≡ k
front c = length-take-le _ _ (enough c)

-- the lists of one row have 8 places for each four of its weights
room : (c : Start) → 8 * groups_of c.args.self.code.header.k ≤ 512
unfolding groups_of
room c = omega (arith, few c)

pub prepare-requires : goal.prepare-requires
prepare-requires c =
    let h = c.args.self.code.header in
    let start = (goal.at.prepare-requires c).Start in
    rw (c.new-codes.ensures, front start) (
      few start,
      below_take (size h) h.k c.args.self.weights.now c.args.self.symbols,
      omega arith,
      omega (arith, room start, c.filled-lists.ensures),
      omega (arith, c.filled-counts.ensures),
    )

-- the lists are as long as they were, and so are the sizes
same_lists : (c : After-prepare) → length c.prepare.new.lists ≡ length c.filled-lists.result
same_lists c = search rules

same-sizes : (c : After-prepare) → length c.prepare.new.counts ≡ length c.filled-counts.result
same-sizes c = search rules

-- they are those of the weights
begun : (c : After-prepare)
    → let h = c.args.self.code.header in
    Begun (modulus_of h) h.k (λ i. take h.k c.args.self.weights.now) 1 c.prepare.new.lists c.prepare.new.counts
begun c =
    let ws : List ℕ = take c.args.self.code.header.k c.args.self.weights.now in
    rw (c.new-codes.ensures, front (goal.at.After-prepare c).Start) at (c.prepare.ensures (λ i. ws) refl (begun_none _ (length ws) (λ i. ws) _ _ (λ i. refl)))

made_row : (c : After-prepare) → let h = c.args.self.code.header in Made (modulus_of h) h.k 1 c.prepare.new.lists c.prepare.new.counts
made_row c =
    begun_made (omega arith) (omega (arith, room (goal.at.After-prepare c).Start, same_lists c, c.filled-lists.ensures)) (omega (arith, same-sizes c, c.filled-counts.ensures)) (begun c)

pub fill-requires : goal.fill-requires
unfolding out_bytes width
fill-requires c =
    let v = c.args.self in
    rw c.product.ensures
    record {
      usable_field = v.code.sound.usable_field;
      wide = v.listed.wide;
      few = few (goal.at.fill-requires c).Start;
      few_lanes = v.listed.symbol_rows.few_lanes;
      made = made_row (goal.at.fill-requires c).After-prepare;
      source_long = v.listed.bytes;
      out_long = c.requires ∙ ap (λ (x : ℕ). x * v.lanes) (sym (mul-one v.width.bytes));
    }

pub returns : goal.returns
unfolding result_bytes side_of
returns c =
    let v = c.args.self in
    let h = v.code.header in
    let m = c.product.ensures in
    let ws : List ℕ = take h.k v.weights.now in
    rw m at (c.fill.ensures (λ i. ws) (rw m (begun (goal.at.returns c).After-prepare)))
    ∙ row_combined (modulus_of h) v.width.bytes h.k v.lanes ws _
    ∙ combined_front (modulus_of h) h.k v.weights.now (enough (goal.at.returns c).Start) v.width.bytes v.lanes _
