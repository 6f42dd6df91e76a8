-- Polynomials by their coefficients, the constant first: products of linear factors, and division by one.
use Rattle.std.specs.Prelude.{List, [], ◌∷◌, map, ℕ, zero, suc, get_or}
use Rattle.field.specs.Fields.{add, sub, mul, power, inverse}

-- c + (x − a)·q(x)
unfoldable pub times_linear : ℕ → ℕ → ℕ → List ℕ → List ℕ
times_linear p a c [] = c ∷ []
times_linear p a c (q ∷ qs) = sub p c (mul p a q) ∷ times_linear p a q qs

-- the same as far as the list goes: it has a 0 for the last coefficient
unfoldable pub carried : ℕ → ℕ → ℕ → List ℕ → List ℕ
carried p a c [] = []
carried p a c (q ∷ qs) = sub p c (mul p a q) ∷ carried p a q qs

-- the product of (x − a) over the points a
unfoldable pub product_of : ℕ → List ℕ → List ℕ
product_of p [] = 1 ∷ []
product_of p (a ∷ xs) = times_linear p a 0 (product_of p xs)

-- the base polynomial: the product of (x − root^i) for i below m
unfoldable pub base_of : ℕ → ℕ → ℕ → List ℕ
base_of p root zero = 1 ∷ []
base_of p root (suc m) = times_linear p (power p root m) 0 (base_of p root m)

-- the quotient of c + x·cs(x) by x − a, whatever c is: synthetic division, from the highest coefficient down
unfoldable pub quotient_of : ℕ → ℕ → List ℕ → List ℕ
quotient_of p a [] = []
quotient_of p a (c ∷ cs) = add p (mul p a (get_or (quotient_of p a cs) 0 0)) c ∷ quotient_of p a cs

-- the products of the coefficients of two lists, as far as both go
unfoldable pub termwise : ℕ → List ℕ → List ℕ → List ℕ
termwise p [] ds = []
termwise p (c ∷ cs) [] = []
termwise p (c ∷ cs) (d ∷ ds) = mul p c d ∷ termwise p cs ds

-- 1 over each coefficient
unfoldable pub inverses_of : ℕ → List ℕ → List ℕ
inverses_of p cs = map (inverse p) cs
