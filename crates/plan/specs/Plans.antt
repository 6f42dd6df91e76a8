-- What a plan holds.
use Rattle.std.specs.Prelude.{Ok, Err}
use Rattle.generator.specs.Answers.{Answer}
use Rattle.generator.specs.declared.Header.{Header}
use Rattle.std.specs.Prelude.{◌≡◌, ◌&&◌, List, ℕ, ◌+◌, ◌%◌, ltb, get_or}
use Rattle.lists.specs.Choice.{pick}
use Rattle.lists.specs.Padded.{padded}
use Rattle.plan.specs.declared.Plan.{Plan}
use Rattle.generator.specs.Records.{distance, low_reads, high_reads, record_of}
use Rattle.generator.specs.Claims.{Promised}
use Rattle.generator.specs.Shifts.{shifts, firsts}
use Rattle.generator.specs.Generator.{base_word}

-- the plan of a header: the places beyond the k shifts, the k first nodes and the n entries hold 0
unfoldable pub plan_of : Header → Plan
plan_of h =
    record {
      n = h.n;
      k = h.k;
      d = distance h;
      low = low_reads h;
      high = high_reads h;
      shifts = padded 255 (shifts h);
      firsts = padded 255 (firsts h);
      base = padded 255 (base_word h);
    }

-- the plan of a record as it was read, or the number that turns it away
unfoldable pub plan_for : Answer Header → Answer Plan
plan_for (Err f) = Err f
plan_for (Ok h) = Ok (plan_of h)

-- entry (r, j) of a plan, read from its base word by the shift of row r; 0 where r is not below k or j not below n
unfoldable pub entry_in : Plan → ℕ → ℕ → ℕ
entry_in plan r j = pick (ltb r plan.k && ltb j plan.n) (get_or plan.base ((j + get_or plan.shifts r 0) % plan.n) 0) 0

-- what `build_plan` promises: the plan of the record, and everything claimed of an accepted one
pub record PlanSays (rec : List ℕ) (answer : Answer Plan) : Type 0 where
  pub plan : answer ≡ plan_for (record_of rec)
  pub claims : Promised (record_of rec)
