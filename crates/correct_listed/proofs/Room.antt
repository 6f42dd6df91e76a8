-- The scratch in which the message is made.
use mathlib.Core.List.{List}
use Prim.Native.Nat.{ℕ, ◌*◌, ◌≤◌}
use native.Mathlib.Nat.{mul-le-mul}
use native.Mathlib.Omega.{arith}
use lib.ListN.{length}
use Rattle.generator.specs.declared.Header.{Header}
use Rattle.generator.proofs.Widths.{width_range}
use Rattle.tile_products.proofs.Fitting.{lists_fit}
use Rattle.recover_matrix.specs.Inner.Inverse.{square_bytes, ListRoom}
use Rattle.listed_products.specs.Inner.Shares.{ListedNodes}

-- room for the lists and the squares of at most so many nodes, in groups of four
pub listed_room : {h : Header} {nodes : List ℕ} → ListedNodes h nodes → (groups most : ℕ) → length nodes ≤ most → most ≤ 4 * groups → ListRoom (length nodes) (most * (8 * groups)) (most * 8) × (square_bytes h ≤ 2 * most * most)
listed_room {h} {nodes} m groups most small all =
    let rows : h.k ≤ most = omega (arith, m.enough) in
    (record { entries = lists_fit (length nodes) (length nodes) groups most small (omega arith); sizes = omega arith }, mul-le-mul (mul-le-mul (width_range h).1 rows) rows)
