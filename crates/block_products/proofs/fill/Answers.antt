-- `fill` meets its contract: what is ready is a job.
use Rattle.std.proofs.Common.{arith}
use Rattle.std.proofs.lemmas.Grind.{merely}
use Rattle.lists.proofs.Numbers.{at_below}
use Rattle.block_products.proofs.fill.Goals as goal

pub invariant_of-job : goal.invariant_of-job
invariant_of-job c =
    let r = c.requires in
    record {
      usable_field = r.usable_field;
      wide = r.wide;
      few_rows = r.few;
      few_outputs = r.made.few;
      few_lanes = r.few_lanes;
      made = merely r.made;
      bytes = at_below 256 c.args.source.now (λ i h. omega (arith, c.type_inv.source i));
      source_long = r.source_long;
    }
