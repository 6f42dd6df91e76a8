-- Update of a run of lanes: what it leaves, and that a run of one lane is Update.
use Rattle.std.specs.Prelude.{Ok}
use Rattle.std.specs.Prelude.{◌≡◌, ◌↔◌, true, List, ℕ, ◌+◌, ◌*◌, ◌<◌, length, get_or, set}
use Rattle.lists.specs.Counting.{differ}
use Rattle.layout.specs.Width.{symbol_at}
use Rattle.generator.specs.declared.Header.{Header}
use Rattle.generator.specs.Answers.{Answer}
use Rattle.generator.specs.Records.{header_of, distance, width}
use Rattle.generator.specs.Codewords.{encoding}
use Rattle.generator.specs.Claims.{is_message}
use Rattle.correct.specs.Meaning.{lane_in}
use Rattle.update.specs.Promise.{UpdateSays}
use Rattle.update_lanes.specs.Runs.{run_length}
use Rattle.update_lanes.specs.Promise.{RunSays}
use Rattle.demands.specs.Calls.{read}

-- lane i of the run
pub record RunLane (h : Header) (l r first : ℕ) (old new shares shares' : List ℕ) (i : ℕ) : Type 0 where
  -- it encoded a message, and no other one ..
  pub message : List ℕ
  pub is_the_message : is_message h message ≡ true
  pub encoded : lane_in h l shares (first + i) ≡ encoding h message
  pub only : (ms : List ℕ) → is_message h ms ≡ true → lane_in h l shares (first + i) ≡ encoding h ms → ms ≡ message
  -- .. which held the old symbol
  pub held_old : get_or message r 0 ≡ get_or (read h old) i 0
  -- now it encodes the message with the new one
  pub lane : lane_in h l shares' (first + i) ≡ encoding h (set message r (get_or (read h new) i 0))

-- the call is done
pub record RunDone (h : Header) (l r first : ℕ) (old new shares shares' : List ℕ) (count : ℕ) : Type 0 where
  pub lanes : (i : ℕ) → i < run_length h old → RunLane h l r first old new shares shares' i
  -- no other lane is altered
  pub others : (q : ℕ) → q < l → ((i : ℕ) → i < run_length h old → q ≡ first + i → ⊥) → lane_in h l shares' q ≡ lane_in h l shares q
  -- the count is of the symbols that differ afterwards
  pub reports : count ≡ differ (read h shares) (read h shares')
  -- n − k + 1 for each lane whose symbols, the old and the new one, differ
  pub count_is : count ≡ distance h * differ (read h old) (read h new)

pub record UpdateRuns : Type 0 where
  pub done : (rec : List ℕ) (l r first : ℕ) (old new shares shares' : List ℕ) (count : ℕ) → RunSays rec l r first old new shares shares' (Ok count) → RunDone (header_of rec) l r first old new shares shares' count
  -- what it says of one lane is what Update says, and the other way round
  pub one : (rec : List ℕ) (l r t : ℕ) (old new shares shares' : List ℕ) (answer : Answer ℕ) → length old ≡ width (header_of rec) → length new ≡ width (header_of rec)
      → RunSays rec l r t old new shares shares' answer ↔ UpdateSays rec l r t (symbol_at (width (header_of rec)) old 0) (symbol_at (width (header_of rec)) new 0) shares shares' answer
