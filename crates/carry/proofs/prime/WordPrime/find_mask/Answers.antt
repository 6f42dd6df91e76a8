-- `find_mask` meets its contract. The loop's invariant: the mask begins with the digits of a, and so many masks are ruled out of those that do.
use mathlib.Core.Path.{◌≡◌, refl, sym, ap, ◌∙◌}
use mathlib.Core.Bool.{true}
use mathlib.Core.List.{List, ◌∷◌}
use Prim.Native.Nat.{ℕ, ◌+◌, ◌-◌, ◌*◌, ◌≤◌, ◌<◌}
use native.Mathlib.Nat.{mod-eq_of_lt}
use native.Mathlib.Numerals.{add-one}
use native.Mathlib.Omega.{arith}
use lib.Dec.{leb}
use lib.ListN.{length}
use Rattle.lists.specs.Numbers.{all_below}
use Rattle.lists.proofs.Numbers.{cons_below, at_below}
use Rattle.carrying.specs.Masks.{all_ruled_out, mask_from, mask_of}
use Rattle.carrying.proofs.Masks.{all_whole, mask_settled}
use Rattle.carry.proofs.Digits.{whole_below, digits_half, next_fits, low_part, taken_ruled, taken_mask}
use Rattle.carry.proofs.prime.WordPrime.find_mask.Goals as goal
use Rattle.carry.proofs.prime.WordPrime.find_mask.Goals.{After-all_ruled_out-low, Else-total-eq0}

-- there is a digit more to find
half : (c : Else-total-eq0) → c.loop-k.a < 32768
half c =
    digits_half c.loop-k.a (c.loop-k.k - 1) c.loop-k.k (omega arith) c.loop-k.invariant.0

low-in : (c : After-all_ruled_out-low) → c.all_ruled_out-low.result ≤ c.loop-k.total
low-in c =
    low_part c.args.self.p (c.loop-k.k - 1) c.loop-k.k c.loop-k.a c.all_ruled_out-low.result c.loop-k.total (0 ∷ c.args.words.now) (omega arith) c.all_ruled_out-low.ensures c.loop-k.invariant.1

pub loop-k-init : goal.loop-k-init
unfolding mask_of
loop-k-init c =
    let words = c.args.words.now in
    let low : all_below 65536 words ≡ true = at_below 65536 words (λ i h. omega (arith, c.type_inv.words i)) in
    let whole = all_whole c.args.self.p (0 ∷ words) (cons_below 65536 0 words (omega arith) low) in
    (omega arith, ap (λ (n : ℕ). n * (65536 - c.args.self.p)) (add-one (length words)) ∙ sym whole, refl)

pub returns-then-total-eq0 : goal.returns-then-total-eq0
returns-then-total-eq0 c =
    let here : c.loop-k.k - 1 + 1 ≡ c.loop-k.k = omega arith in
    let less = whole_below c.loop-k.a c.loop-k.k c.loop-k.invariant.0 in
    rw here
    (mod-eq_of_lt (omega arith)
    ∙ sym (c.loop-k.invariant.2 ∙ mask_settled c.args.self.p c.loop-k.k c.loop-k.a (0 ∷ c.args.words.now) (sym c.loop-k.invariant.1 ∙ c.if-total-eq0.true)))

pub all_ruled_out-low-requires : goal.all_ruled_out-low-requires
all_ruled_out-low-requires c = (omega arith, omega (arith, half c), omega arith)

pub overflow_sub-high : goal.overflow_sub-high
overflow_sub-high c = low-in c

pub next_digit-a-requires : goal.next_digit-a-requires
next_digit-a-requires c = half (goal.at.next_digit-a-requires c).Else-total-eq0

pub loop-k-preserved : goal.loop-k-preserved
loop-k-preserved c =
    let words : List ℕ = 0 ∷ c.args.words.now in
    let k = c.loop-k.k - 1 in
    let one : k + 1 ≡ c.loop-k.k = omega (arith, c.loop-k-test.true) in
    let digit = c.next_digit-a.ensures in
    let ruled = taken_ruled c.args.self.p k c.loop-k.k c.loop-k.a c.all_ruled_out-low.result c.loop-k.total words one c.all_ruled_out-low.ensures c.loop-k.invariant.1 in
    let mask = taken_mask c.args.self.p k c.loop-k.k c.loop-k.a c.all_ruled_out-low.result c.loop-k.total words one c.all_ruled_out-low.ensures c.loop-k.invariant.1 in
    (rw digit (next_fits c.loop-k.a k c.loop-k.k one c.loop-k.invariant.0 (leb c.all_ruled_out-low.result (c.loop-k.total - c.all_ruled_out-low.result))), c.min-total.ensures ∙ ruled ∙ sym (ap (λ (x : ℕ). all_ruled_out c.args.self.p k x words) digit), c.loop-k.invariant.2 ∙ mask ∙ sym (ap (λ (x : ℕ). mask_from c.args.self.p k x words) digit))

pub returns : goal.returns
unfolding mask_from
returns c =
    let end : c.loop-k.k ≡ 0 = omega arith in
    sym (c.loop-k.invariant.2 ∙ ap (λ (x : ℕ). mask_from c.args.self.p x c.loop-k.a (0 ∷ c.args.words.now)) end)
