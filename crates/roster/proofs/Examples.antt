-- Worked examples over the record 1 7 3 6 3: n = 6, k = 3.
use Rattle.std.specs.Prelude.{Ok, Err}
use Rattle.generator.specs.Answers.{Answer, answer_of}
use Rattle.generator.specs.declared.Header.{Header}
use mathlib.Core.Path.{◌≡◌, refl}
use mathlib.Core.List.{List, [], ◌∷◌}
use Prim.Native.Nat.{ℕ}
use Rattle.lists.specs.Rows.{from}
use Rattle.lists.specs.Counting.{passing_from}
use Rattle.field.specs.declared.Field.TheVariants.{Prime}
use Rattle.field.specs.Kinds.{prime_of}
use Rattle.roster.specs.declared.Roster.{Roster}
use Rattle.roster.specs.declared.Listing.TheVariants.{TooFew}
use Rattle.roster.specs.Events.{leaves, returns}
use Rattle.roster.specs.Rosters.{first_marks, present_of, first_roster, start_of, event_fault, marked, step_with, step_by, step_of, listing, listed, lowest_nodes, nodes_at, job_nodes, moved_on, after, wrote, lowest_of, lowest_list, job_of, job_list}
use Rattle.roster.specs.Histories.{after_events}
use Rattle.roster.specs.Runs.{event, job, next, is_read, read_by, reads_of}

unfoldable pub rec : Answer Header
rec = Ok (record { field = Prime (prime_of 7); root = 3; n = 6; k = 3 })

unfoldable pub lent : List ℕ
lent = 9 ∷ 9 ∷ 9 ∷ []

-- nodes 0 and 3 leave; that 3 leaves again is refused
unfoldable pub reached : Roster
reached = after_events rec (leaves 0 ∷ leaves 3 ∷ leaves 3 ∷ []) (start_of rec).roster

pub examples : (lowest_list rec reached lent ≡ 1 ∷ 2 ∷ 4 ∷ [])
    × (reads_of rec (job lent ∷ job lent ∷ event (returns 6) ∷ job lent ∷ job lent ∷ []) reached ≡ 1 ∷ 2 ∷ 4 ∷ 5 ∷ 1 ∷ 2 ∷ 4 ∷ 5 ∷ 1 ∷ 2 ∷ 4 ∷ 5 ∷ [])
    × ((step_of rec (leaves 3) reached).number ≡ 15)
    × ((step_of rec (returns 6) reached).number ≡ 9)
    × ((step_of rec (returns 3) reached).number ≡ 0)
    × (lowest_of rec reached (9 ∷ []) ≡ Err 8)
    × (lowest_of rec (after_events rec (leaves 1 ∷ leaves 2 ∷ []) reached) lent ≡ Ok TooFew)
unfolding rec lent reached from passing_from first_marks present_of first_roster start_of event_fault marked step_with step_by answer_of listing listed lowest_nodes nodes_at job_nodes moved_on after wrote lowest_of lowest_list job_of job_list next after_events is_read read_by reads_of
examples = (refl, refl, refl, refl, refl, refl, refl)
