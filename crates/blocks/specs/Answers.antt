-- The answer of Belongs, from the number that turned it away (0 for none) and its value.
use Rattle.std.specs.Prelude.{Option, Some, None}
use Rattle.generator.specs.Answers.{Answer, answer_of}
use Rattle.std.specs.Prelude.{ℕ, eqb}
use Rattle.lists.specs.Choice.{pick}

-- the smallest wrong lane of l, or none where `wrong` is l
abbrev pub membership_of : ℕ → ℕ → ℕ → Answer (Option ℕ)
membership_of f l wrong = answer_of f (pick (eqb wrong l) None (Some wrong))
