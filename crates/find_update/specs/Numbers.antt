-- What was found in numbers, case by case.
use Rattle.std.specs.Prelude.{ℕ}
use Rattle.find_update.specs.declared.Finding.{Finding}
use Rattle.find_update.specs.declared.Finding.TheVariants.{Unchanged, Added, NoSingleUpdate}

-- 0 for equal lanes, 1 for an update that was found, 2 where there is none
unfoldable pub case_of : Finding → ℕ
case_of Unchanged = 0
case_of (Added r x) = 1
case_of NoSingleUpdate = 2

-- the symbol that was found, and the amount; 0 otherwise
unfoldable pub found_symbol : Finding → ℕ
found_symbol Unchanged = 0
found_symbol (Added r x) = r
found_symbol NoSingleUpdate = 0

unfoldable pub found_amount : Finding → ℕ
found_amount Unchanged = 0
found_amount (Added r x) = x
found_amount NoSingleUpdate = 0
