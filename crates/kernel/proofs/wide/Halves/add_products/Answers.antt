-- `Halves::add_products` meets its contract: nothing is added for the weight 0. The loop's invariant: the lanes below t hold their sums.
use Rattle.std.proofs.Common.{◌≡◌, ℕ, ◌+◌, ◌*◌, ◌/◌, ◌%◌, ◌<◌, List, length, get_or, set, refl, ap, ◌∙◌, mul-zero, arith}
use Rattle.kernel.specs.Inner.Halves.{pair_product, wrapped}
use Rattle.kernel.proofs.Filling.{changed_none, changed_lane, changed_all}
use Rattle.kernel.proofs.Halves.{wrapped_none}
use Rattle.kernel.proofs.wide.Halves.add_products.Invariants.{Adding}
use Rattle.kernel.proofs.wide.Halves.add_products.Goals as goal
use Rattle.kernel.proofs.wide.Halves.add_products.Goals.{Then-weight-eq0, After-from_be_bytes-x}

-- a product with 0
none : (c : Then-weight-eq0) → let a = c.args in (t : ℕ) → pair_product a.weight a.first.now a.second.now t ≡ 0
unfolding pair_product
none c t = rw c.if-weight-eq0.true (mul-zero _)

pub returns-then-weight-eq0 : goal.returns-then-weight-eq0
returns-then-weight-eq0 c =
    let h = c.args.self.now in
    record {
      low_rest = wrapped_none _ _ h.low.rest_lanes (λ t. rw (none c t));
      low_upper = wrapped_none _ _ h.low.upper_lanes (λ t. rw (none c t));
      high_rest = wrapped_none _ _ h.high.rest_lanes (λ t. rw (none c t));
      high_upper = wrapped_none _ _ h.high.upper_lanes (λ t. rw (none c t));
    }

pub loop-t-init : goal.loop-t-init
loop-t-init c =
    record { low_rest = changed_none _ _; low_upper = changed_none _ _; high_rest = changed_none _ _; high_upper = changed_none _ _ }

-- one lane more: y is what the lane holds now, x what was added
added : (f : ℕ → ℕ) (start : List ℕ) {now after : List ℕ} {t x y : ℕ} → t < length start → Adding f start now t → after ≡ set now t y → y ≡ (get_or now t 0 + x) % 65536 → x ≡ f t → Adding f start after (t + 1)
added f start inside sums set_is is from = rw (set_is, is, from) (changed_lane _ _ sums inside)

-- the product of this turn's lane
product_is : (c : After-from_be_bytes-x) → let a = c.args in c.from_be_bytes-x.result * a.weight ≡ pair_product a.weight a.first.now a.second.now c.loop-t.t
unfolding pair_product
product_is c = let e : c.from_be_bytes-x.result ≡ get_or c.args.first.now c.loop-t.t 0 * 256 + get_or c.args.second.now c.loop-t.t 0 = omega (arith, c.from_be_bytes-x.ensures) in ap (λ (x : ℕ). x * c.args.weight) e

pub loop-t-preserved : goal.loop-t-preserved
loop-t-preserved c =
    let inv = c.loop-t.invariant in
    let h = c.args.self.now in
    let is = product_is (goal.at.loop-t-preserved c).After-from_be_bytes-x in
    let low = ap (λ (x : ℕ). x % 65536) is in
    let high = c.upper.ensures ∙ ap (λ (x : ℕ). x / 65536) is in
    record {
      low_rest = added _ _ (omega (arith, h.low.rest_lanes.long)) inv.low_rest c.add.ensures.rest refl low;
      low_upper = added _ _ (omega (arith, h.low.upper_lanes.long)) inv.low_upper c.add.ensures.upper refl (ap (λ (x : ℕ). x / 256) low);
      high_rest = added _ _ (omega (arith, h.high.rest_lanes.long)) inv.high_rest c.add-in-loop-t.ensures.rest refl high;
      high_upper = added _ _ (omega (arith, h.high.upper_lanes.long)) inv.high_upper c.add-in-loop-t.ensures.upper refl (ap (λ (x : ℕ). x / 256) high);
    }

pub returns : goal.returns
unfolding wrapped
returns c =
    let inv = c.loop-t.invariant in
    let h = c.args.self.now in
    record {
      low_rest = changed_all _ _ inv.low_rest (omega (arith, h.low.rest_lanes.long));
      low_upper = changed_all _ _ inv.low_upper (omega (arith, h.low.upper_lanes.long));
      high_rest = changed_all _ _ inv.high_rest (omega (arith, h.high.rest_lanes.long));
      high_upper = changed_all _ _ inv.high_upper (omega (arith, h.high.upper_lanes.long));
    }
