-- Rows that are changed lane by lane: their length and their lanes.
use Rattle.std.proofs.Common.{◌≡◌, ℕ, ◌<◌, true, List, length, get_or, ap, ◌∙◌, mod-eq_of_lt, mul-zero, zero-add, arith, ext_get_or}
use native.Mathlib.Nat.{zero-mod}
use Rattle.lists.specs.Rows.{from}
use Rattle.lists.specs.Numbers.{all_below}
use Rattle.lists.proofs.Rows.{length_from, get_or_from, from_ext}
use Rattle.lists.proofs.Numbers.{below_at}
use Rattle.field.proofs.Meanings.{add_modulo, mul_modulo}
use Rattle.kernel.specs.Inner.Lanes.{lanewise, add_scaled}

module _ (f : ℕ → ℕ → ℕ) (acc : List ℕ) where
  pub length_lanewise : length (lanewise f acc) ≡ length acc
  unfolding lanewise
  length_lanewise = length_from (λ t. f t (get_or acc t 0)) 0 (length acc)

  -- lane t
  pub get_or_lanewise : (t : ℕ) → t < length acc → get_or (lanewise f acc) t 0 ≡ f t (get_or acc t 0)
  unfolding lanewise
  get_or_lanewise t h = rw zero-add at (get_or_from (λ t. f t (get_or acc t 0)) 0 (length acc) t 0 h)

-- changes that agree at every lane
pub lanewise_ext : (f g : ℕ → ℕ → ℕ) (acc : List ℕ) → ((t : ℕ) → t < length acc → f t (get_or acc t 0) ≡ g t (get_or acc t 0)) → lanewise f acc ≡ lanewise g acc
unfolding lanewise
lanewise_ext f g acc h = from_ext _ _ 0 (length acc) (λ t low high. h t (omega arith))

-- a change that leaves every lane as it is
pub lanewise_same : (f : ℕ → ℕ → ℕ) (acc : List ℕ) → ((t : ℕ) → t < length acc → f t (get_or acc t 0) ≡ get_or acc t 0) → lanewise f acc ≡ acc
lanewise_same f acc h =
    ext_get_or 0 (lanewise f acc) acc (length_lanewise f acc)
    (λ t b. let inside : t < length acc = omega (arith, length_lanewise f acc) in get_or_lanewise f acc t inside ∙ h t inside)

-- a row times 0 adds nothing to symbols of a prime field
pub none_added : (p c : ℕ) (row acc : List ℕ) → c ≡ 0 → 0 < p → all_below p acc ≡ true → add_scaled p c row acc ≡ acc
unfolding add_scaled
none_added p c row acc e some low =
    lanewise_same _ acc
    (λ t inside.
    rw (e, mul_modulo p some (get_or row t 0) 0, add_modulo p some, mul-zero, zero-mod, zero-add) (mod-eq_of_lt (below_at p acc low t inside)))

-- one change after the other
pub lanewise_twice : (f g : ℕ → ℕ → ℕ) (acc : List ℕ) → lanewise f (lanewise g acc) ≡ lanewise (λ t y. f t (g t y)) acc
unfolding lanewise
lanewise_twice f g acc =
    ap (from (λ t. f t (get_or (lanewise g acc) t 0)) 0) (length_lanewise g acc)
    ∙ from_ext _ (λ t. f t (g t (get_or acc t 0))) 0 (length acc) (λ t low high. ap (f t) (get_or_lanewise g acc t (omega arith)))

-- a change of the lanes f t of a row makes g t
pub lanewise_from : (c : ℕ → ℕ → ℕ) (f g : ℕ → ℕ) (l : ℕ) → ((t : ℕ) → t < l → c t (f t) ≡ g t) → lanewise c (from f 0 l) ≡ from g 0 l
unfolding lanewise
lanewise_from c f g l h =
    ap (from (λ t. c t (get_or (from f 0 l) t 0)) 0) (length_from f 0 l)
    ∙ from_ext _ g 0 l
    (λ t low high.
    let inside : t < l = omega arith in
    ap (c t) (rw zero-add at (get_or_from f 0 l t 0 inside)) ∙ h t inside)
