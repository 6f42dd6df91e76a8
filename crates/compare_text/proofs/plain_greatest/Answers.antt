-- `plain_greatest` meets its contract.
use Rattle.lists.proofs.Tests.{tests}
use Rattle.generator.specs.Comparison.{plain_greatest}
use Rattle.compare_text.proofs.plain_greatest.Goals as goal

pub returns-then-k-n : goal.returns-then-k-n
unfolding plain_greatest
returns-then-k-n c = search tests

pub returns-else-k-n : goal.returns-else-k-n
unfolding plain_greatest
returns-else-k-n c = search tests
