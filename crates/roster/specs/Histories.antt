-- Histories: events one after the other, and what they alone say.
use Rattle.generator.specs.Answers.{Answer}
use Rattle.generator.specs.declared.Header.{Header}
use Rattle.std.specs.Prelude.{◌≡◌, Bool, true, List, [], ◌∷◌, ℕ, eqb}
use Rattle.lists.specs.Choice.{pick}
use Rattle.lists.specs.Counting.{passing_from}
use Rattle.roster.specs.declared.Roster.{Roster}
use Rattle.roster.specs.Events.{Event, named, says}
use Rattle.roster.specs.Rosters.{step_of}

-- the roster after events one after the other, accepted or refused
unfoldable pub after_events : Answer Header → List Event → Roster → Roster
after_events code [] roster = roster
after_events code (ev ∷ evs) roster = after_events code evs (step_of code ev roster).roster

-- from the events alone: whether the last event that names node j says that it is present; `first` where none names it
unfoldable pub last_says : ℕ → List Event → Bool → Bool
last_says j [] first = first
last_says j (ev ∷ evs) first = last_says j evs (pick (eqb (named ev) j) (says ev) first)

-- the nodes below n that are present by the events alone: all are at first
unfoldable pub present_by : ℕ → List Event → List ℕ
present_by n evs = passing_from n 0 (λ j. last_says j evs true)

-- no event names node j
unfoldable pub NoneNames : ℕ → List Event → Type 0
NoneNames j [] = Unit {0}
NoneNames j (ev ∷ evs) = (named ev ≡ j → ⊥) × NoneNames j evs
