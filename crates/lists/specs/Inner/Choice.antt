-- One of two statements.
use Rattle.std.specs.Prelude.{Bool, true, false}

-- the same for two statements
abbrev pub PickT : Bool → Type 0 → Type 0 → Type 0
PickT true a b = a
PickT false a b = b
