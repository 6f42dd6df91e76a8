-- A mask is found: where fewer masks are ruled out than there are, the half with fewer of them has one left, down to the last digit.
use mathlib.Core.Path.{◌≡◌, refl, sym, ap, ap₂, ◌∙◌}
use mathlib.Core.Bool.{true}
use mathlib.Core.List.{List, [], ◌∷◌}
use Prim.Native.Nat.{ℕ, zero, suc, ◌+◌, ◌-◌, ◌*◌, ◌/◌, ◌%◌, ◌^◌, min, ◌<◌}
use native.Mathlib.Nat.{pow-suc, pow-zero, div-div-eq-div-mul, add-mul, one-mul, mul-one, zero-mul, mul_comm, mul_right_comm, mul_assoc, suc-mul, div-one}
use native.Mathlib.Numerals.{add-one}
use native.Mathlib.Omega.{arith}
use borrow.Author.Tests.{le-leb, leb-true, leb-false}
use lib.Bits.{bit_xor, differ, xor_step, xor_zero_l}
use lib.Dec.{leb}
use lib.ListN.{length}
use Rattle.lists.specs.Numbers.{all_below}
use Rattle.lists.proofs.Cases.{by_test}
use Rattle.lists.proofs.Numbers.{below_cons, cons_below}
use Rattle.carrying.specs.Masks.{masked, covered, ruled_out, all_ruled_out, mask_from, mask_of, closed}

-- a number under the two masks that begin alike: the two of one pair
pair_even : (u a : ℕ) → bit_xor u (a * 2) ≡ bit_xor (u / 2) a * 2 + u % 2
pair_even u a =
    let low : a * 2 % 2 ≡ 0 = omega arith in
    let high : a * 2 / 2 ≡ a = omega arith in
    xor_step u (a * 2) ∙ ap₂ (λ (x y : ℕ). bit_xor (u / 2) x * 2 + differ (u % 2) y) high low ∙ ap (λ (x : ℕ). bit_xor (u / 2) a * 2 + x) (none (u % 2))
  where
    none : (x : ℕ) → differ x 0 ≡ x
    none zero = refl
    none (suc x) = refl

pair_odd : (u a : ℕ) → bit_xor u (a * 2 + 1) ≡ bit_xor (u / 2) a * 2 + (1 - u % 2)
pair_odd u a =
    let low : (a * 2 + 1) % 2 ≡ 1 = omega arith in
    let high : (a * 2 + 1) / 2 ≡ a = omega arith in
    xor_step u (a * 2 + 1) ∙ ap₂ (λ (x y : ℕ). bit_xor (u / 2) x * 2 + differ (u % 2) y) high low ∙ ap (λ (x : ℕ). bit_xor (u / 2) a * 2 + x) (other (u % 2) (omega arith))
  where
    other : (x : ℕ) → x < 2 → differ x 1 ≡ 1 - x
    other zero h = refl
    other (suc zero) h = refl
    other (suc (suc x)) h = absurd (omega arith)

-- a stretch of numbers and its two halves
min_halves : (t s p : ℕ) → min (s * 2) (t * 2 + s * 2 - p) ≡ min s (t * 2 + s - p) + min s (t * 2 + s * 2 - p)
min_halves t s p = omega arith

module _ (p s q : ℕ) where
  whole_is : (q + 1) * (s * 2) ≡ q * s * 2 + s * 2
  whole_is = add-mul q 1 (s * 2) ∙ ap₂ ◌+◌ (sym (mul_assoc q s 2)) (one-mul (s * 2))

  first_is : (q * 2 + 1) * s ≡ q * s * 2 + s
  first_is = add-mul (q * 2) 1 s ∙ ap₂ ◌+◌ (mul_right_comm q 2 s) (one-mul s)

  second_is : (q * 2 + 2) * s ≡ q * s * 2 + s * 2
  second_is = add-mul (q * 2) 2 s ∙ ap₂ ◌+◌ (mul_right_comm q 2 s) (mul_comm 2 s)

  halves : (d : ℕ) → d < 2 → min (s * 2) ((q + 1) * (s * 2) - p) ≡ min s ((q * 2 + d + 1) * s - p) + min s ((q * 2 + (1 - d) + 1) * s - p)
  halves zero h =
      let one : q * 2 + 0 + 1 ≡ q * 2 + 1 = omega arith in
      let two : q * 2 + 1 + 1 ≡ q * 2 + 2 = omega arith in
      rw (one, two, whole_is, first_is, second_is) (min_halves (q * s) s p)
  halves (suc zero) h =
      let one : q * 2 + 0 + 1 ≡ q * 2 + 1 = omega arith in
      let two : q * 2 + 1 + 1 ≡ q * 2 + 2 = omega arith in
      rw (one, two, whole_is, first_is, second_is) (min_halves (q * s) s p ∙ omega arith)
  halves (suc (suc d)) h = absurd (omega arith)

-- a word rules out so many of both halves of the masks
pub ruled_halves : (p k a w : ℕ) → ruled_out p (suc k) a w ≡ ruled_out p k (a * 2) w + ruled_out p k (a * 2 + 1) w
unfolding ruled_out
ruled_halves p k a w =
    let u = w / 2 ^ k in
    let q = bit_xor (u / 2) a in
    ap (λ (s : ℕ). min s ((bit_xor (w / s) a + 1) * s - p)) (pow-suc 2 k)
    ∙ ap (λ (x : ℕ). min (2 ^ k * 2) ((bit_xor x a + 1) * (2 ^ k * 2) - p)) (sym (div-div-eq-div-mul w (2 ^ k) 2))
    ∙ halves p (2 ^ k) q (u % 2) (omega arith)
    ∙ ap₂ (λ (x y : ℕ). min (2 ^ k) ((x + 1) * 2 ^ k - p) + min (2 ^ k) ((y + 1) * 2 ^ k - p)) (sym (pair_even u a)) (sym (pair_odd u a))

-- and so do several
pub all_halves : (p k a : ℕ) (ws : List ℕ) → all_ruled_out p (suc k) a ws ≡ all_ruled_out p k (a * 2) ws + all_ruled_out p k (a * 2 + 1) ws
unfolding all_ruled_out
all_halves p k a [] = refl
all_halves p k a (w ∷ ws) = omega (arith, ruled_halves p k a w, all_halves p k a ws)

-- of all masks a word rules out 65,536 - p
ruled_whole : (p w : ℕ) → w < 65536 → ruled_out p 16 0 w ≡ 65536 - p
unfolding ruled_out
ruled_whole p w h =
    let none : w / 65536 ≡ 0 = omega arith in
    ap (λ (x : ℕ). min 65536 ((bit_xor x 0 + 1) * 65536 - p)) none ∙ omega arith

pub all_whole : (p : ℕ) (ws : List ℕ) → all_below 65536 ws ≡ true → all_ruled_out p 16 0 ws ≡ length ws * (65536 - p)
unfolding all_ruled_out
all_whole p [] low = sym (zero-mul (65536 - p))
all_whole p (w ∷ ws) low =
    let (here, rest) = below_cons 65536 w ws low in
    omega (arith, ruled_whole p w here, all_whole p ws rest, suc-mul (length ws) (65536 - p))

-- a mask that rules out none of the words makes symbols of them
none_ruled_out : (p c : ℕ) (ws : List ℕ) → all_ruled_out p 0 c ws ≡ 0 → all_below p (masked c ws) ≡ true
unfolding all_ruled_out ruled_out masked all_below
none_ruled_out p c [] e = refl
none_ruled_out p c (w ∷ ws) e =
    let one : min 1 ((bit_xor (w / 1) c + 1) * 1 - p) ≡ 0 = omega arith in
    let rest : all_ruled_out p 0 c ws ≡ 0 = omega arith in
    let here : bit_xor (w / 1) c < p = omega (arith, mul-one (bit_xor (w / 1) c + 1)) in
    cons_below p (bit_xor w c) (masked c ws) (rw (div-one w) at here) (none_ruled_out p c ws rest)

-- digit by digit: of the half that is taken fewer are ruled out than there are
pub left_over : (p k a : ℕ) (ws : List ℕ) → all_ruled_out p k a ws < 2 ^ k → all_ruled_out p 0 (mask_from p k a ws) ws ≡ 0
unfolding mask_from
left_over p zero a ws h = omega (arith, pow-zero 2)
left_over p (suc k) a ws h =
    let low = all_ruled_out p k (a * 2) ws in
    let high = all_ruled_out p k (a * 2 + 1) ws in
    by_test (leb low high)
    (λ e. rw e (left_over p k (a * 2) ws (omega (arith, leb-true low high e, all_halves p k a ws, pow-suc 2 k))))
    (λ e. rw e (left_over p k (a * 2 + 1) ws (omega (arith, leb-false low high e, all_halves p k a ws, pow-suc 2 k))))

-- where none are ruled out, the digits that are left are zeros
pub mask_settled : (p k a : ℕ) (ws : List ℕ) → all_ruled_out p k a ws ≡ 0 → mask_from p k a ws ≡ a * 2 ^ k
unfolding mask_from
mask_settled p zero a ws e = sym (ap (λ (x : ℕ). a * x) (pow-zero 2) ∙ mul-one a)
mask_settled p (suc k) a ws e =
    let both = all_halves p k a ws in
    let first : all_ruled_out p k (a * 2) ws ≡ 0 = omega arith in
    let fewer : leb (all_ruled_out p k (a * 2) ws) (all_ruled_out p k (a * 2 + 1) ws) ≡ true = le-leb (all_ruled_out p k (a * 2) ws) (all_ruled_out p k (a * 2 + 1) ws) (omega arith) in
    rw fewer (mask_settled p k (a * 2) ws first ∙ mul_assoc a 2 (2 ^ k) ∙ ap (λ (x : ℕ). a * x) (mul_comm 2 (2 ^ k) ∙ sym (pow-suc 2 k)))

-- the mask is one word more: 0 under it
pub covered_is : (c : ℕ) (ws : List ℕ) → covered c ws ≡ masked c (0 ∷ ws)
unfolding covered masked
covered_is c ws = ap (λ (x : ℕ). x ∷ masked c ws) (sym (xor_zero_l c))

-- so a mask is found: it is a symbol, and makes symbols of all words
pub mask_serves : (p : ℕ) (ws : List ℕ) → all_below 65536 ws ≡ true → (length ws + 1) * (65536 - p) < 65536 → all_below p (closed p ws) ≡ true
unfolding closed mask_of
mask_serves p ws words few =
    let all = all_whole p (0 ∷ ws) (cons_below 65536 0 ws (omega arith) words) in
    rw (covered_is (mask_from p 16 0 (0 ∷ ws)) ws) (none_ruled_out p (mask_from p 16 0 (0 ∷ ws)) (0 ∷ ws) (left_over p 16 0 (0 ∷ ws) (omega (arith, ap (λ (n : ℕ). n * (65536 - p)) (add-one (length ws))))))
