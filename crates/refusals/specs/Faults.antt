-- What turns a call away: the lowest of numbers 7 to 13 whose condition holds, or 0. A symbol has `width` bytes.
use Rattle.std.specs.Prelude.{List, ℕ}
use Rattle.lists.specs.Choice.{first_of, when}
use Rattle.generator.specs.declared.Header.{Header}
use Rattle.generator.specs.Records.{header_of, record_fault}
use Rattle.refusals.specs.Conditions.{nodes_bad, twice_bad, symbols_bad, no_word, other_symbol}

-- a lane that an update is to change: it is a word, and its message holds the old symbol at number r
unfoldable pub stale_fault : Header → List ℕ → ℕ → ℕ → ℕ
stale_fault h ws r old = first_of (when (no_word h ws) 12) (when (other_symbol h ws r old) 13)

-- a list of k nodes and their shares
unfoldable pub list_fault : Header → List ℕ → List ℕ → ℕ
list_fault h nodes shares =
    first_of (when (nodes_bad h nodes) 9)
    (first_of (when (twice_bad nodes) 10)
    (when (symbols_bad h shares) 11))

-- the record's number, 1 to 5, else the call's
unfoldable pub fault_of : List ℕ → (Header → ℕ) → ℕ
fault_of rec call = first_of (record_fault rec) (call (header_of rec))
