-- Powers in a field, and the order of an element.
use Rattle.std.specs.Prelude.{◌≡◌, ℕ, zero, suc, ◌<◌}
use Rattle.algebra.specs.Field.{Field}

module _ (F : Field) where
  open F use {Carrier, 1f, mul}

  -- the power a^e
  abbrev pub pow : Carrier → ℕ → Carrier
  pow a zero = 1f
  pow a (suc e) = mul a (pow a e)

  -- a has order n: n is the least positive exponent with a^n = 1
  pub record Order (a : Carrier) (n : ℕ) : Type 0 where
    pub positive : 0 < n
    pub returns : pow a n ≡ 1f
    pub least : (e : ℕ) → 0 < e → e < n → pow a e ≡ 1f → ⊥
