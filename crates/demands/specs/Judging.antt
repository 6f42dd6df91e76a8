-- What turns a call away, as a table: numbers, each with what it is given for. The lowest number that is met is given.
use Rattle.std.specs.Prelude.{◌≡◌, ◌↔◌, ◌≢◌, ◌⊎◌, List, [], ◌∷◌, ℕ, ◌<◌}

-- lines of a number and a condition; a number may stand in several lines
abbrev pub Table : Type 1
Table = List (ℕ × Type 0)

-- number f is met: it stands in a line whose condition holds
abbrev pub Met : Table → ℕ → Type 0
Met [] f = ⊥
Met (x ∷ xs) f = ((x.0 ≡ f) × x.1) ⊎ Met xs f

-- of a call: `gives f` says that it gives number f, `kept` that all that was lent to it is as it was
pub record Judged (table : Table) (gives : ℕ → Type 0) (kept : Type 0) : Type 0 where
  -- a number is given exactly if it is met and no lower one is
  pub number : (f : ℕ) → gives f ↔ (Met table f × ((f' : ℕ) → f' < f → Met table f' → ⊥))
  -- a call is accepted exactly if no number is met
  pub accepted : ((f : ℕ) → gives f → ⊥) ↔ ((f : ℕ) → Met table f → ⊥)
  -- a call that is turned away alters nothing
  pub unaltered : (f : ℕ) → gives f → kept

-- a number that is returned; 0 is none
abbrev pub Returns : ℕ → ℕ → Type 0
Returns returned f = (returned ≡ f) × (f ≢ 0)
