-- The front of an array of zeros, filled place after place: the array is then padded.
use Rattle.std.proofs.lemmas.List.{take-replicate}
use mathlib.Core.Path.{◌≡◌}
use mathlib.Core.List.{List, ◌++◌}
use Prim.Native.Nat.{ℕ, ◌≤◌, ◌<◌}
use native.Mathlib.Omega.{arith}
use lib.ListN.{length, take, drop}
use Rattle.lists.specs.Padded.{zeros, padded}
use Rattle.lists.specs.Rows.{from}
use Rattle.lists.proofs.Fill.{Filled, filled_start, drop_zeros, length_zeros, fills_all}
use Rattle.lists.proofs.Rows.{from_end, length_from}

module _ (n m : ℕ) (f : ℕ → ℕ) where
  pub front_start : m ≤ n → Filled m m f 0 (take m (zeros n))
  unfolding zeros
  front_start fits = rw (take-replicate {X = ℕ} m n 0 fits) (filled_start m m f (omega arith))

  module _ {i : ℕ} {now : List ℕ} (s : Filled m m f i now) where
    -- the place that comes next is one of them
    pub front_inside : i < length now → i < m
    front_inside h = omega (arith, s.fills.long, length_zeros m)

    pub front_end : length now ≤ i → now ++ drop m (zeros n) ≡ padded n (from f 0 m)
    unfolding padded
    front_end h =
        let whole : now ≡ from f 0 m = fills_all (rw (from_end f m i (omega (arith, s.fills.long, length_zeros m))) at s.fills) (omega (arith, s.fills.long)) in
        rw (whole, drop_zeros, length_from)
