-- `prepare_all` meets its contract. The loop's invariant: the outputs below j have their lists.
use Rattle.std.proofs.Common.{◌≡◌, ℕ, ◌<◌, List, length, take}
use Rattle.field.specs.Kinds.{modulus}
use Rattle.tile_products.specs.Inner.Matrices.{Begun}
use Rattle.tile_products.proofs.codes.WeightCodes.prepare_all.Given as goal

abbrev pub invariant-loop-j : goal.invariant-loop-j
invariant-loop-j g l =
    (length l.lists ≡ length l.initial.lists)
    × (length l.counts ≡ length l.initial.counts)
    × ((w : ℕ → List ℕ) → ((i : ℕ) → length (w i) ≡ l.rows) → ((i : ℕ) (r : _) → i < l.outputs → goal.F-post g l.row i r → take l.rows r ≡ w i) → Begun (modulus l.self.field) l.rows w l.j l.lists l.counts)
