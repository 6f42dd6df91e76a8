-- A buffer with one lane changed: that lane, the others, and how many symbols differ.
use mathlib.Core.Path.{◌≡◌, refl, sym, ap, ◌∙◌}
use mathlib.Core.Bool.{Bool, false, not, true≢false}
use mathlib.Core.List.{List}
use mathlib.Core.Logic.{by_cases}
use Prim.Native.Nat.{ℕ, ◌*◌, ◌<◌}
use native.Mathlib.Decide.{ℕ_discrete}
use native.Mathlib.Omega.{arith}
use borrow.Author.Tests.{eq-eqb, ne_eqb}
use lib.Dec.{eqb}
use lib.ListN.{length, get_or}
use Rattle.lists.specs.Choice.{pick}
use Rattle.lists.specs.Counting.{count_from, differ}
use Rattle.lists.specs.Rows.{from}
use Rattle.lists.proofs.Along.{count_along}
use Rattle.lists.proofs.Count.{count_ext}
use Rattle.lists.proofs.Rows.{from_ext}
use Rattle.layout.specs.Layout.{Arrangement, held, lane_of, with_lane}
use Rattle.layout.proofs.Lawful.{Lawful}
use Rattle.layout.proofs.Buffers.{length_buffer, held_buffer, buffer_ext, buffer_held}

-- where a test passes in lane t alone, it is counted along that lane
pub count_lane : {y : Arrangement} (a : Lawful y) (rows l t : ℕ) (p : ℕ → Bool) → t < l → ((i q : ℕ) → i < rows → q < l → (q ≡ t → ⊥) → p ((y rows l).place i q) ≡ false) → count_from (rows * l) 0 p ≡ count_from rows 0 (λ i. p ((y rows l).place i t))
count_lane {y} a rows l t p inside elsewhere =
    count_along (rows * l) rows (λ i. (y rows l).place i t) p
    record {
      low = λ i hi. a.inside rows l i t hi inside;
      differ = λ i j hi hj e. sym (a.row_back rows l i t hi inside) ∙ ap (y rows l).row e ∙ a.row_back rows l j t hj inside;
    }
    (λ x hx e.
    let (row, lane, at) = a.covers rows l x hx in
    by_cases (ℕ_discrete ((y rows l).lane x) t)
    (λ same. ((y rows l).row x, row, ap ((y rows l).place ((y rows l).row x)) (sym same) ∙ at))
    (λ other. absurd (true≢false (sym e ∙ ap p (sym at) ∙ elsewhere ((y rows l).row x) ((y rows l).lane x) row lane other))))

module _ {y : Arrangement} (a : Lawful y) (rows l t : ℕ) (g : ℕ → ℕ) (s : List ℕ) where
  -- the length
  pub length_with_lane : length (with_lane y rows l t g s) ≡ rows * l
  unfolding with_lane
  length_with_lane = length_buffer y rows l (λ i q. pick (eqb q t) (g i) (held y rows l s i q))

  -- what a row holds in a lane
  pub held_with_lane : (i q : ℕ) → i < rows → q < l → held y rows l (with_lane y rows l t g s) i q ≡ pick (eqb q t) (g i) (held y rows l s i q)
  unfolding with_lane
  held_with_lane i q hi hq = held_buffer a rows l (λ i q. pick (eqb q t) (g i) (held y rows l s i q)) i q hi hq

  -- in the changed lane ..
  pub held_changed : (i : ℕ) → i < rows → t < l → held y rows l (with_lane y rows l t g s) i t ≡ g i
  held_changed i hi inside = held_with_lane i t hi inside ∙ ap (λ (b : Bool). pick b (g i) (held y rows l s i t)) (eq-eqb t t refl)

  -- .. and in another
  pub held_kept : (i q : ℕ) → i < rows → q < l → (q ≡ t → ⊥) → held y rows l (with_lane y rows l t g s) i q ≡ held y rows l s i q
  held_kept i q hi hq other = held_with_lane i q hi hq ∙ ap (λ (b : Bool). pick b (g i) (held y rows l s i q)) (ne_eqb q t other)

  -- the changed lane
  pub lane_changed : t < l → lane_of y rows l t (with_lane y rows l t g s) ≡ from g 0 rows
  unfolding lane_of
  lane_changed inside = from_ext _ g 0 rows (λ i low high. held_changed i (omega arith) inside)

  -- the other lanes stay
  pub lane_kept : (q : ℕ) → q < l → (q ≡ t → ⊥) → lane_of y rows l q (with_lane y rows l t g s) ≡ lane_of y rows l q s
  unfolding lane_of
  lane_kept q hq other = from_ext _ (λ i. held y rows l s i q) 0 rows (λ i low high. held_kept i q (omega arith) hq other)

  -- as many symbols differ as rows hold another symbol in the lane
  pub differ_lane : t < l → length s ≡ rows * l → differ s (with_lane y rows l t g s) ≡ count_from rows 0 (λ i. not (eqb (held y rows l s i t) (g i)))
  unfolding differ held
  differ_lane inside long =
      let test : ℕ → Bool = λ x. not (eqb (get_or s x 0) (get_or (with_lane y rows l t g s) x 0)) in
      ap (λ (f : ℕ). count_from f 0 test) long
      ∙ count_lane a rows l t test inside (λ i q hi hq other. ap not (eq-eqb _ _ (sym (held_kept i q hi hq other))))
      ∙ count_ext rows 0 _ _ (λ i low high. ap (λ (b : ℕ). not (eqb (held y rows l s i t) b)) (held_changed i (omega arith) inside))

module _ {y : Arrangement} (a : Lawful y) (rows l t : ℕ) (s : List ℕ) where
  -- only the lane's rows count
  pub with_lane_ext : (f g : ℕ → ℕ) → ((i : ℕ) → i < rows → f i ≡ g i) → with_lane y rows l t f s ≡ with_lane y rows l t g s
  unfolding with_lane
  with_lane_ext f g same = buffer_ext a rows l _ _ (λ i q hi hq. ap (λ (v : ℕ). pick (eqb q t) v (held y rows l s i q)) (same i hi))

  -- a lane changed to what it holds
  pub with_lane_same : length s ≡ rows * l → with_lane y rows l t (λ i. held y rows l s i t) s ≡ s
  unfolding with_lane
  with_lane_same long =
      buffer_ext a rows l _ (held y rows l s)
      (λ i q hi hq. by_cases (ℕ_discrete q t) (λ e. rw (eq-eqb q t e, e)) (λ n. rw (ne_eqb q t n)))
      ∙ buffer_held a rows l s long
