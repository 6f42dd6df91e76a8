-- The first number of a stretch that fails a test.
use Rattle.std.specs.Prelude.{Bool, ℕ, zero, suc, ◌+◌}
use Rattle.lists.specs.Choice.{pick}

-- of the `left` numbers from i on the first that fails, or i + left
unfoldable pub first_false : ℕ → ℕ → (ℕ → Bool) → ℕ
first_false zero i test = i
first_false (suc left) i test = pick (test i) (first_false left (i + 1) test) i
