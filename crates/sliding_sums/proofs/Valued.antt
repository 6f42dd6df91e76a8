-- A list by index that is filled place by place.
use mathlib.Core.Path.{◌≡◌}
use mathlib.Core.List.{List}
use Prim.Native.Nat.{ℕ, ◌+◌, ◌≤◌, ◌<◌}
use native.Mathlib.Omega.{arith}
use lib.ListN.{length, set}
use Rattle.lists.proofs.Fill.{fills_put}
use Rattle.lists.proofs.Parts.{Valued}
use Rattle.lists.proofs.Rows.{from_next}

-- one place more
pub valued_next : (f : ℕ → ℕ) (n : ℕ) {start now : List ℕ} {t x : ℕ} → Valued f n start now t → t < n → n ≤ length start → x ≡ f t → Valued f n start (set now t x) (t + 1)
valued_next f n {t = t} a inside long is = rw is (fills_put (rw (from_next f n t inside) at a) (omega arith))
