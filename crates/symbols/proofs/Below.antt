-- A test of all values of a function: one at a time.
use mathlib.Core.Path.{◌≡◌, ap, sym, ◌∙◌}
use mathlib.Core.Bool.{true, false, ◌&&◌, and-true, and_assoc, and_comm}
use Prim.Native.Nat.{ℕ, ◌+◌, ◌-◌, ◌≤◌, ◌<◌, max}
use native.Mathlib.Omega.{arith}
use borrow.Author.Tests.{lt-ltb, le-ltb, ltb-true, ltb-false}
use lib.Dec.{ltb}
use Rattle.lists.specs.Numbers.{all_below}
use Rattle.lists.specs.Rows.{from}
use Rattle.lists.proofs.Cases.{by_test}
use Rattle.lists.proofs.Rows.{from_next, from_end}
use Rattle.kernel.proofs.Maximum.{ltb_larger}

-- both are below m where the larger one is
pub ltb_max : (a b m : ℕ) → ltb (max a b) m ≡ (ltb a m && ltb b m)
ltb_max a b m =
    by_test (ltb b a)
    (λ e.
    let less = ltb-true b a e in
    let is : max a b ≡ a = omega (arith, less) in
    ap (λ x. ltb x m) is ∙ ltb_larger b a m (omega (arith, less)) ∙ and_comm (ltb b m) _)
    (λ e.
    let least = ltb-false b a e in
    let is : max a b ≡ b = omega (arith, least) in
    ap (λ x. ltb x m) is ∙ ltb_larger a b m (omega (arith, least)))

module _ (m n : ℕ) (f : ℕ → ℕ) (i : ℕ) where
  -- the next one passes ..
  pub below_step : i < n → f i < m → all_below m (from f i (n - i)) ≡ all_below m (from f (i + 1) (n - (i + 1)))
  unfolding all_below
  below_step h low = rw (from_next f n i h, lt-ltb (f i) m low)

  -- .. or fails ..
  pub below_stop : i < n → m ≤ f i → all_below m (from f i (n - i)) ≡ false
  unfolding all_below
  below_stop h high = rw (from_next f n i h, le-ltb (f i) m high)

  -- .. or there is none
  pub below_none : n ≤ i → all_below m (from f i (n - i)) ≡ true
  unfolding all_below
  below_none h = rw (from_end f n i h)

  -- the largest so far and the next one
  pub below_larger : (a b : ℕ) → i < n → ltb a m ≡ (ltb b m && ltb (f i) m) → (ltb b m && all_below m (from f i (n - i))) ≡ (ltb a m && all_below m (from f (i + 1) (n - (i + 1))))
  unfolding all_below
  below_larger a b h e = rw (from_next f n i h, e) (sym (and_assoc (ltb b m) (ltb (f i) m) (all_below m (from f (i + 1) (n - (i + 1))))))

  pub below_largest : (a : ℕ) → n ≤ i → (ltb a m && all_below m (from f i (n - i))) ≡ ltb a m
  unfolding all_below
  below_largest a h = rw (from_end f n i h) (and-true (ltb a m))
