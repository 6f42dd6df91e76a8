-- Choices by a test.
use Rattle.std.specs.Prelude.{Bool, true, false, ℕ, zero, suc}

-- a where the test passes, else b
abbrev pub pick : {A : Type 0} → Bool → A → A → A
pick true a b = a
pick false a b = b

-- the first of two numbers that is not 0
abbrev pub first_of : ℕ → ℕ → ℕ
first_of zero b = b
first_of (suc a) b = suc a

-- a where the test passes, else 0
abbrev pub when : Bool → ℕ → ℕ
when true a = a
when false a = 0
