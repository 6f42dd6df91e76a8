-- The locator on numbers: arrays of coefficients, read past their end as zeros.
use Rattle.std.specs.Prelude.{◌≡◌, List, ℕ, zero, suc, ◌+◌, ◌-◌, ◌<◌, ltb, length, get_or}
use Rattle.lists.specs.Choice.{pick}
use Rattle.field.specs.Fields.{size_of, add, sub, mul}

-- every number is below q, the zeros past the end too
abbrev pub Below : ℕ → List ℕ → Type 0
Below q v = (x : ℕ) → get_or v x 0 < q

-- the sum of v_i·s_(e+i) over i < m
unfoldable pub partial : ℕ → List ℕ → List ℕ → ℕ → ℕ → ℕ
partial p v s e zero = 0
partial p v s e (suc m) = add p (partial p v s e m) (mul p (get_or v m 0) (get_or s (e + m) 0))

-- coefficient x of x^i·w
unfoldable pub shifted : List ℕ → ℕ → ℕ → ℕ
shifted w i x = pick (ltb x i) 0 (get_or w (x - i) 0)

-- coefficient x of x^i·w − d·x^j·v
unfoldable pub amended_at : ℕ → ℕ → List ℕ → ℕ → List ℕ → ℕ → ℕ → ℕ
amended_at p d w i v j x = sub p (shifted w i x) (mul p d (shifted v j x))

-- v is not zero, has no coefficient past t, and no discrepancy below t
pub record Locates (p t : ℕ) (s v : List ℕ) : Type 0 where
  pub long : length v ≡ 255
  pub below : Below (size_of p) v
  pub short : (x : ℕ) → t < x → get_or v x 0 ≡ 0
  pub nonzero : ((x : ℕ) → get_or v x 0 ≡ 0) → ⊥
  pub recurs : (e : ℕ) → e < t → partial p v s e (suc t) ≡ 0
