-- The shifts as document 03 states them (specs/Plans.antt), and that ours are the same for every header whose n divides k·d.
-- Its text stands here but for one mark: `shifts` is `unfoldable`. Its `rest` is quoted in the crate `field`; its `pick` is that of `lists`.
use mathlib.Core.Path.{◌≡◌, refl, sym, ap, ◌∙◌}
use mathlib.Core.Bool.{Bool, true, false}
use mathlib.Core.List.{List, [], ◌∷◌, ◌++◌}
use Prim.Native.Nat.{ℕ, zero, suc, ◌+◌, ◌-◌, ◌*◌, ◌/◌, ◌%◌}
use native.Mathlib.Nat.{div-zero}
use native.Mathlib.Numerals.{add-one}
use native.Mathlib.Omega.{arith}
use lib.Dec.{eqb, ltb}
use Rattle.lists.specs.Choice.{pick}
use Rattle.field.proofs.Agreement.{rest, rest_agrees}
use Rattle.generator.specs.declared.Header as Own
use Rattle.generator.specs.Records as Records
use Rattle.generator.specs.Shifts as Ours
use Rattle.generator.proofs.RecordsAgreement.{Header, given, weight, weight_agrees}

-- document 03's definitions
abbrev pub gcd_from : ℕ → ℕ → ℕ → ℕ
gcd_from zero a b = a
gcd_from (suc f) a b = elim (eqb b 0) [ true ↦ a | false ↦ gcd_from f b (rest a b) ]

abbrev pub gcd : ℕ → ℕ → ℕ
gcd a b = gcd_from (suc b) a b

abbrev pub divided : ℕ → ℕ → ℕ
divided a zero = 0
divided a (suc b) = a / suc b

abbrev pub shifts_from : ℕ → ℕ → ℕ → ℕ → ℕ → List ℕ
shifts_from zero i t s at_place = []
shifts_from (suc f) i t s at_place = pick (ltb at_place t) (i ∷ []) [] ++ shifts_from f (suc i) t s (pick (eqb (suc at_place) (t + s)) 0 (suc at_place))

unfoldable pub shifts : Header → List ℕ
shifts h = let g = gcd h.k h.n in shifts_from h.n 0 (divided h.k g) (divided (weight h - 1) g) 0

-- its quotient is that of division
pub divided_agrees : (a b : ℕ) → divided a b ≡ a / b
divided_agrees a zero = sym (div-zero a)
divided_agrees a (suc b) = refl

gcd_from_agrees : (f a b : ℕ) → gcd_from f a b ≡ Ours.gcd_from f a b
unfolding Ours.gcd_from
gcd_from_agrees zero a b = refl
gcd_from_agrees (suc f) a b = go (eqb b 0) (gcd_from_agrees f b (rest a b) ∙ ap (Ours.gcd_from f b) (rest_agrees a b))
  where
    go : (t : Bool) → gcd_from f b (rest a b) ≡ Ours.gcd_from f b (a % b) → elim t as (λ x. ℕ) [ true ↦ a | false ↦ gcd_from f b (rest a b) ] ≡ pick t a (Ours.gcd_from f b (a % b))
    go true e = refl
    go false e = e

pub gcd_agrees : (a b : ℕ) → gcd a b ≡ Ours.gcd a b
unfolding Ours.gcd
gcd_agrees a b = gcd_from_agrees (suc b) a b

shifts_from_agrees : (f i t s place : ℕ) → shifts_from f i t s place ≡ Ours.shifts_from f i t s place
unfolding Ours.shifts_from
shifts_from_agrees zero i t s place = refl
shifts_from_agrees (suc f) i t s place =
    rw (add-one i, add-one place)
    (ap (λ (l : List ℕ). pick (ltb place t) (i ∷ []) [] ++ l) (shifts_from_agrees f (suc i) t s (pick (eqb (suc place) (t + s)) 0 (suc place))))

-- the rule of Lemma 2, for every header
even_agrees : (h : Own.Header) → shifts (given h) ≡ Ours.even_shifts h.n h.k
unfolding shifts Ours.even_shifts Records.distance
even_agrees h =
    let same : Records.distance h - 1 ≡ h.n - h.k = omega arith in
    rw (shifts_from_agrees, gcd_agrees, divided_agrees h.k, weight_agrees h, same, divided_agrees (h.n - h.k))

-- the shifts, where n divides k·d
pub shifts_agrees : (h : Own.Header) → h.k * Records.distance h % h.n ≡ 0 → shifts (given h) ≡ Ours.shifts h
unfolding Ours.shifts_of Ours.is_even Records.distance
shifts_agrees h even = even_agrees h ∙ rw even
