-- What a layout has to meet, and that both layouts meet it.
use mathlib.Core.Path.{◌≡◌}
use Prim.Native.Nat.{ℕ, zero, suc, ◌*◌, ◌<◌}
use native.Mathlib.Nat.{mod-lt, div-add-mod', div-lt_iff_lt-mul, mul_comm, mul-zero}
use native.Mathlib.Omega.{arith}
use lib.Arith.{digits_div, digits_mod, digits_lt}
use Rattle.layout.specs.Layout.{Arrangement, row_after_row, lane_after_lane}

-- rows and lanes have places of their own, and every place is of a row and a lane
pub record Lawful (y : Arrangement) : Type 0 where
  pub inside : (rows l i t : ℕ) → i < rows → t < l → (y rows l).place i t < rows * l
  pub row_back : (rows l i t : ℕ) → i < rows → t < l → (y rows l).row ((y rows l).place i t) ≡ i
  pub lane_back : (rows l i t : ℕ) → i < rows → t < l → (y rows l).lane ((y rows l).place i t) ≡ t
  pub covers : (rows l x : ℕ) → x < rows * l → ((y rows l).row x < rows) × ((y rows l).lane x < l) × ((y rows l).place ((y rows l).row x) ((y rows l).lane x) ≡ x)

-- a product with a number below it has a second factor
factor_some : (a b x : ℕ) → x < a * b → 0 < b
factor_some a b x h = go b h
  where
    go : (b : ℕ) → x < a * b → 0 < b
    go zero h = absurd (omega (arith, mul-zero a))
    go (suc b) h = omega arith

pub by_row : Lawful row_after_row
unfolding row_after_row
by_row =
    record {
      inside = λ rows l i t hi ht. digits_lt hi ht;
      row_back = λ rows l i t hi ht. digits_div i ht;
      lane_back = λ rows l i t hi ht. digits_mod i ht;
      covers = λ rows l x h. let pos = factor_some rows l x h in ((div-lt_iff_lt-mul pos).1 h, mod-lt x pos, div-add-mod' x l);
    }

pub by_lane : Lawful lane_after_lane
unfolding lane_after_lane
by_lane =
    record {
      inside = λ rows l i t hi ht. rw (mul_comm rows l) (digits_lt ht hi);
      row_back = λ rows l i t hi ht. digits_mod t hi;
      lane_back = λ rows l i t hi ht. digits_div t hi;
      covers = λ rows l x h.
          let turned : x < l * rows = rw (mul_comm rows l) at h in
          let pos = factor_some l rows x turned in
          (mod-lt x pos, (div-lt_iff_lt-mul pos).1 turned, div-add-mod' x rows);
    }
