-- The ways to choose b out of a: the lists of b rising numbers below a.
use Rattle.std.specs.Prelude.{◌≡◌, List, [], ◌∷◌, ◌++◌, map, ℕ, zero, suc, ◌<◌, length, get_or}
use Rattle.weight_distribution.specs.Counts.{binomial}

-- b rising numbers below a
pub record Rising (a b : ℕ) (js : List ℕ) : Type 0 where
  pub long : length js ≡ b
  pub below : (i : ℕ) → i < b → get_or js i 0 < a
  pub rises : (i i' : ℕ) → i < i' → i' < b → get_or js i 0 < get_or js i' 0

-- all such lists: first those that end in the last number, then those without it
unfoldable pub choices : ℕ → ℕ → List (List ℕ)
choices zero zero = [] ∷ []
choices zero (suc b) = []
choices (suc a) zero = [] ∷ []
choices (suc a) (suc b) = map (λ js. js ++ (a ∷ [])) (choices a b) ++ choices a (suc b)

-- each stands in the list, at one place, nothing else does, and C(a, b) is their number
pub record Choosing (a b : ℕ) : Type 0 where
  pub count : length (choices a b) ≡ binomial a b
  pub each : (js : List ℕ) → Rising a b js → (i : ℕ) × (i < length (choices a b)) × (get_or (choices a b) i [] ≡ js)
  pub other : (i : ℕ) → i < length (choices a b) → Rising a b (get_or (choices a b) i [])
  pub once : (i i' : ℕ) → i < length (choices a b) → i' < length (choices a b) → get_or (choices a b) i [] ≡ get_or (choices a b) i' [] → i ≡ i'
