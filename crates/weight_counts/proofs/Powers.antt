-- What no number leaves: few messages; the powers that the difference table starts from.
use Rattle.std.proofs.Common.{◌≡◌, ℕ, suc, ◌+◌, ◌-◌, ◌*◌, ◌^◌, ◌<◌, ◌≤◌, not, eqb, ltb, sym, ap, ◌∙◌, pow-suc, arith, ltb-false, le-ltb, eqb-true}
use native.Mathlib.Nat.{pow-le-pow_right}
use borrow.Author.Tests.{not-false}
use Rattle.lists.specs.Choice.{pick}
use Rattle.lists.specs.Rows.{from}
use Rattle.lists.proofs.Cases.{when_zero}
use Rattle.lists.proofs.Rows.{from_ext}
use Rattle.generator.specs.declared.Header.{Header}
use Rattle.generator.specs.Records.{size, Sound}
use Rattle.refusals.proofs.Accepts.{not_met}
use Rattle.weight_distribution.specs.Inner.Prescribed.{prescribed}
use Rattle.weight_counts.specs.Weights.{messages_bad, weights_fault}
use Rattle.weight_counts.specs.Inner.Counting.{Small, differences_of}

-- no number is met: the counts fill the buffer, whose length is `out`, and the messages are few
pub accepts : (h : Header) → Sound h → (out : ℕ) → weights_fault h out ≡ 0 → Small h × (out ≡ h.n + 1)
unfolding weights_fault messages_bad
accepts h s out e =
    let (eight, sixteen) = not_met (not (eqb out (h.n + 1))) 7 _ e in
    (record { sound = s; few = ltb-false 65536 (size h ^ h.k) (when_zero (messages_bad h) 15 sixteen) }, eqb-true out (h.n + 1) (not-false _ eight))

-- the next power of the table, and the same again where nothing but zero is left
pub power_more : (q f y : ℕ) → f ≤ y → q ^ (y - f) * q ≡ q ^ (y + 1 - f)
power_more q f y l =
    let e : y + 1 - f ≡ suc (y - f) = omega arith in
    sym (pow-suc q (y - f)) ∙ ap (λ (x : ℕ). q ^ x) (sym e)

pub power_same : (q f y : ℕ) → y < f → q ^ (y - f) ≡ q ^ (y + 1 - f)
power_same q f y l =
    let e : y - f ≡ y + 1 - f = omega arith in
    ap (λ (x : ℕ). q ^ x) e

-- no power of the table is above the number of messages
pub power_most : (n k q y : ℕ) → 0 < q → k ≤ n → y ≤ n → q ^ (y - (n - k)) ≤ q ^ k
power_most n k q y p f l = pow-le-pow_right p (omega arith)

-- the powers are the difference table before its first turn
pub powers_table : (h : Header) → h.k ≤ h.n → from (λ y. size h ^ (y - (h.n - h.k))) 0 (h.n + 1) ≡ differences_of h 0
unfolding differences_of prescribed
powers_table h f =
    from_ext (λ y. size h ^ (y - (h.n - h.k))) (λ y. prescribed h.n h.k (size h) (pick (ltb y 0) y 0) y) 0 (h.n + 1)
    (λ y low high.
    let e : y - (h.n - h.k) ≡ h.k + y - h.n = omega arith in
    rw (le-ltb y 0 (omega arith)) (ap (λ (x : ℕ). size h ^ x) e))
