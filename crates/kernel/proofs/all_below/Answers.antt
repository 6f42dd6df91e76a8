-- `all_below` meets its contract: no byte is 256 or more, and all are below the size where the largest is.
use Rattle.std.proofs.Common.{rules, sym, arith, ◌≡◌, true, nat_lt}
use Rattle.std.specs.Prelude.{MatchOption}
use Rattle.lists.proofs.Numbers.{at_below}
use Rattle.kernel.proofs.Maximum.{largest_below}
use Rattle.kernel.proofs.all_below.Goals as goal

pub returns-then-size-ge256 : goal.returns-then-size-ge256
returns-then-size-ge256 c = sym (at_below _ _ (λ i h. omega (arith, c.type_inv.s i)))

pub returns : goal.returns
returns c =
    let told : MatchOption c.largest.result (c.is_none_or.result ≡ true) (λ top. c.is_none_or.result ≡ nat_lt top c.args.size) = search rules in
    largest_below _ _ _ _ c.largest.ensures told
