-- The steps by which the rows' terms are computed.
use Rattle.std.specs.Prelude.{◌≡◌, List, ℕ, ◌+◌, ◌-◌, ◌*◌, ◌/◌, ◌%◌, ◌<◌, eqb, length, get_or}
use Rattle.lists.specs.Choice.{pick}
use Rattle.lists.specs.Rows.{from}
use Rattle.field.specs.Fields.{sub, mul, power, inverse}
use Rattle.generator.specs.declared.Header.{Header}
use Rattle.generator.specs.Records.{modulus_of}

-- (top − y) / (scale·(1 − y))
unfoldable pub step_ratio : ℕ → ℕ → ℕ → ℕ → ℕ
step_ratio p top scale y = mul p (sub p top y) (inverse p (mul p scale (sub p 1 y)))

-- the shifts come in g rounds: each has its place among the first `taken` of a round of `around`
pub record InRounds (n : ℕ) (ss : List ℕ) (g : ℕ) : Type 0 where
  pub around : ℕ
  pub taken : ℕ
  pub all_nodes : g * around ≡ n
  pub all_shifts : g * taken ≡ length ss
  pub each : (i : ℕ) → i < length ss → get_or ss i 0 % around < taken

-- the points of one round, each to the power g
unfoldable pub round_points : Header → ℕ → List ℕ
round_points h g = from (λ j. power (modulus_of h) h.root ((j + (h.k - 1)) * g)) 0 (h.k / g)

-- q(x^g), l coefficients
unfoldable pub spaced_of : ℕ → ℕ → List ℕ → List ℕ
spaced_of g l q = from (λ j. pick (eqb (j % g) 0) (get_or q (j / g) 0) 0) 0 l
