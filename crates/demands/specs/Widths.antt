-- Symbols in lent buffers: a byte each in kinds 1 and 2, two bytes in kind 3, the high one first.
use Rattle.std.specs.Prelude.{◌≡◌, ◌≢◌, List, ℕ, ◌+◌, ◌*◌, ◌≤◌, length, get_or}
use Rattle.layout.specs.Width.{bytes_of}
use Rattle.generator.specs.Records.{header_of, width}
use Rattle.demands.specs.Calls.{read}
use Rattle.demands.specs.Numbers.{kind}

-- for an accepted record
pub record Widths (rec : List ℕ) : Type 0 where
  pub one : kind rec ≢ 3 → (s : List ℕ) → read (header_of rec) s ≡ s
  pub two : kind rec ≡ 3 → (s : List ℕ) (i : ℕ) → i * 2 + 2 ≤ length s → get_or (read (header_of rec) s) i 0 ≡ get_or s (i * 2) 0 * 256 + get_or s (i * 2 + 1) 0
  -- what is written is read again
  pub again : (xs : List ℕ) → read (header_of rec) (bytes_of (width (header_of rec)) xs) ≡ xs
