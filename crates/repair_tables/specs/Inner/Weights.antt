-- The weights by which the bits that are sent make the target's symbol.
use Rattle.std.specs.Prelude.{List, ℕ, ◌/◌, ◌%◌, ◌^◌, get_or}
use Rattle.generator.specs.declared.Header.{Header}
use Rattle.traces.specs.Repairs.{part}

-- the weight of bit q of all digits, b bits to a node of the list js: that bit's part in the target's symbol
unfoldable pub bit_weight : Header → ℕ → ℕ → List ℕ → ℕ → ℕ
bit_weight h b target js q = part h b target (get_or js (q / b) 0) (2 ^ (q % b))
