-- `fill_row` meets its contract. Invariant: the bytes for the check sums up to e are written, and i is the place of the next power.
use mathlib.Core.Path.{◌≡◌}
use mathlib.Core.List.{List}
use Prim.Native.Nat.{ℕ, ◌+◌, ◌-◌, ◌*◌, ◌%◌}
use lib.ListN.{length, get_or}
use Rattle.std.specs.Int.{w16, to_be_bytes}
use Rattle.lists.specs.Rows.{from}
use Rattle.lists.proofs.Fill.{Fills}
use Rattle.check_sums.proofs.powers.RootPowers.fill_row.Given as goal

-- the byte for check sum x, as it is read
abbrev pub read : List ℕ → ℕ → ℕ → ℕ → ℕ → ℕ
read powers j n place x = get_or (to_be_bytes w16 (get_or powers (j * x % n) 0)) place 0

abbrev pub invariant-loop-byte : goal.invariant-loop-byte
invariant-loop-byte l = (l.i ≡ l.j * (1 + l.byte-index) % l.n) × Fills l.initial.row l.row l.byte-index (from {A = ℕ} (read l.powers l.j l.n l.place) (1 + l.byte-index) (length l.initial.row - l.byte-index)) (from {A = ℕ} (read l.powers l.j l.n l.place) 1 (length l.initial.row))
