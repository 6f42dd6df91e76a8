-- Update of a run of lanes: what it leaves, and that a run of one lane is Update.
use Rattle.std.specs.Prelude.{Ok}
use mathlib.Core.Path.{◌≡◌, refl, sym, ap, ◌∙◌}
use mathlib.Core.Logic.{◌↔◌}
use mathlib.Core.Bool.{true}
use mathlib.Core.List.{List}
use Prim.Native.Nat.{ℕ, zero, suc, ◌+◌, ◌*◌, ◌<◌}
use native.Mathlib.Omega.{arith}
use lib.Dec.{eqb}
use lib.ListN.{length, get_or, set}
use Rattle.lists.specs.Choice.{first_of, pick}
use Rattle.lists.specs.Counting.{count_from, differ}
use Rattle.lists.specs.Numbers.{all_below}
use Rattle.lists.proofs.Differ.{unlike}
use Rattle.lists.proofs.Numbers.{below_at}
use Rattle.layout.specs.Layout.{lane_of, share_layout}
use Rattle.layout.specs.Width.{symbol_at, symbols_of}
use Rattle.layout.proofs.Buffers.{length_lane}
use Rattle.layout.proofs.Places.{share_lawful}
use Rattle.layout.proofs.Readings.{count_symbols}
use Rattle.layout.proofs.Widths.{length_symbols}
use Rattle.generator.specs.declared.Header.{Header}
use Rattle.generator.specs.Answers.{Answer}
use Rattle.generator.specs.Records.{header_of, size, width, distance, record_fault, Sound}
use Rattle.generator.specs.Codewords.{encoding}
use Rattle.generator.specs.Claims.{is_message}
use Rattle.generator.proofs.Answered.{done_is, value_is}
use Rattle.generator.proofs.Messages.{encoding_injective}
use Rattle.generator.proofs.Widths.{width_some}
use Rattle.refusals.specs.Faults.{fault_of}
use Rattle.refusals.proofs.OnRecord.{none_met}
use Rattle.blocks.specs.Blocks.{updated}
use Rattle.blocks.proofs.Updates.{updated_encodes, updated_count}
use Rattle.correct.specs.Meaning.{lane_in}
use Rattle.update.specs.Promise.{update_fault, UpdateSays}
use Rattle.update_lanes.specs.Runs.{run_length, run_updated, run_symbols, run_bytes, run_count}
use Rattle.update_lanes.specs.Promise.{run_fault, RunSays}
use Rattle.update_lanes.specs.Inner.Ready.{UpdatableRun}
use Rattle.update_lanes.proofs.Accepts.{run_accepts}
use Rattle.update_lanes.proofs.Answering.{run_symbols_differ}
use Rattle.update_lanes.proofs.Lanes.{length_after, lane_apart, lane_before, lane_turned, lanes_differ}
use Rattle.update_lanes.proofs.OneLane.{one_fault, one_bytes, one_count}
use Rattle.demands.specs.Calls.{read}
use Rattle.demands.specs.Numbers.{MayChange}
use Rattle.demands.specs.UpdateRuns.{RunLane, RunDone, UpdateRuns}
use Rattle.demands.proofs.Calls.{read_written}
use Rattle.demands.proofs.RunNumbers.{fresh_means}
use Rattle.demands.proofs.Updates.{count as changed_count}

-- a run that was done
module _ (rec : List ℕ) (l r first : ℕ) (old new shares shares' : List ℕ) (count : ℕ) (says : RunSays rec l r first old new shares shares' (Ok count)) where
  abbrev h : Header
  h = header_of rec

  abbrev m : ℕ
  m = run_length h old

  abbrev olds : List ℕ
  olds = read h old

  abbrev news : List ℕ
  news = read h new

  abbrev whole : List ℕ
  whole = read h shares

  abbrev after : ℕ → List ℕ
  after i = run_updated h l r first olds news i whole

  none : fault_of rec (λ h. run_fault h l r first old new shares) ≡ 0
  none = done_is (fault_of rec (λ h. run_fault h l r first old new shares)) _ says.promise.answered

  accepted : Sound h × (run_fault h l r first old new shares ≡ 0)
  accepted = none_met rec (λ h. run_fault h l r first old new shares) none

  sound : Sound h
  sound = accepted.0

  ready : UpdatableRun h l r first old new shares
  ready = (run_accepts h sound l r first old new shares accepted.1).0

  written : shares' ≡ run_bytes h l r first old new shares
  written = rw none at says.promise.written

  now : read h shares' ≡ after m
  unfolding run_bytes
  now = read_written h shares' _ written

  long : length whole ≡ h.n * l
  long = count_symbols (width h) (h.n * l) shares (width_some h) ready.bytes

  inside_block : (i : ℕ) → i < m → first + i < l
  inside_block i inside = omega (arith, ready.inside)

  new_symbol : (i : ℕ) → i < m → get_or news i 0 < size h
  new_symbol i inside = below_at (size h) news ready.new_symbols i (rw (count_symbols (width h) m new (width_some h) ready.new_bytes) inside)

  -- what lane i encoded
  encoded : (i : ℕ) → i < m → MayChange h (lane_in h l shares (first + i)) r (get_or olds i 0)
  encoded i inside =
      fresh_means h sound (lane_in h l shares (first + i)) (length_lane share_layout h.n l (first + i) whole) (ready.lanes i inside) r (get_or olds i 0) ((run_accepts h sound l r first old new shares accepted.1).1 i inside)

  -- the lane before its turn
  stands : (i : ℕ) → i < m → (ms : List ℕ) → encoding h ms ≡ lane_in h l shares (first + i) → lane_of share_layout h.n l (first + i) (after i) ≡ encoding h ms
  stands i inside ms at = lane_before h l r first olds news whole i (inside_block i inside) ∙ sym at

  lane_done : (i : ℕ) → i < m → RunLane h l r first old new shares shares' i
  lane_done i inside =
      let (ms, message, at, holds) = encoded i inside in
      let block = inside_block i inside in
      record {
        message = ms;
        is_the_message = message;
        encoded = sym at;
        only = λ us u e. encoding_injective h sound us ms u message (sym e ∙ sym at);
        held_old = holds;
        lane =
            ap (lane_of share_layout h.n l (first + i)) now
            ∙ lane_turned h l r first olds news whole m i inside block
            ∙ ap (λ (x : ℕ). lane_of share_layout h.n l (first + i) (updated share_layout h l r (first + i) x (get_or news i 0) (after i))) (sym holds)
            ∙ updated_encodes share_lawful h sound ms (after i) l r (first + i) (get_or news i 0) message ready.row block (new_symbol i inside) (length_after h l r first olds news whole i long) (stands i inside ms at);
      }

  -- how many symbols its turn alters
  turn_count : (i : ℕ) → i < m → differ (after i) (updated share_layout h l r (first + i) (get_or olds i 0) (get_or news i 0) (after i)) ≡ pick (eqb (get_or news i 0) (get_or olds i 0)) 0 (distance h)
  turn_count i inside =
      let (ms, message, at, holds) = encoded i inside in
      let low = new_symbol i inside in
      let block = inside_block i inside in
      rw (← holds)
      (updated_count share_lawful h sound ms (after i) l r (first + i) (get_or news i 0) message ready.row block low (length_after h l r first olds news whole i long) (stands i inside ms at)
      ∙ changed_count h sound ms r (get_or news i 0) message ready.row low)

  run_done : RunDone h l r first old new shares shares' count
  unfolding run_count differ
  run_done =
      let reports = value_is (fault_of rec (λ h. run_fault h l r first old new shares)) _ says.promise.answered in
      record {
        lanes = lane_done;
        others = λ q inside other. ap (lane_of share_layout h.n l q) now ∙ lane_apart h l r first olds news whole m q inside other;
        reports = reports ∙ run_symbols_differ h l r first old new shares shares' written;
        count_is = reports ∙ lanes_differ h l r first olds news whole (distance h) m long inside_block turn_count ∙ ap (λ (x : ℕ). distance h * count_from x 0 (unlike olds news)) (sym (length_symbols (width h) old));
      }

-- a run of one lane
module _ (rec : List ℕ) (l r t : ℕ) (old new shares shares' : List ℕ) (a : Answer ℕ) (one : length old ≡ width (header_of rec)) (other : length new ≡ width (header_of rec)) where
  abbrev before : ℕ
  before = symbol_at (width (header_of rec)) old 0

  abbrev becomes : ℕ
  becomes = symbol_at (width (header_of rec)) new 0

  same_number : fault_of rec (λ h. run_fault h l r t old new shares) ≡ fault_of rec (λ h. update_fault share_layout h l r t before becomes shares)
  unfolding fault_of
  same_number = ap (first_of (record_fault rec)) (one_fault (header_of rec) l r t old new shares one other)

  one_lane : RunSays rec l r t old new shares shares' a ↔ UpdateSays rec l r t before becomes shares shares' a
  one_lane =
      let bytes = one_bytes (header_of rec) l r t old new shares one other in
      let count = one_count (header_of rec) l r t old new shares one other in (
        λ says. record { promise = record { answered = rw (same_number, count) at says.promise.answered; written = rw (same_number, bytes) at says.promise.written } },
        λ says. record { promise = record { answered = rw (← same_number, ← count) at says.promise.answered; written = rw (← same_number, ← bytes) at says.promise.written } },
      )

pub update_runs : UpdateRuns
update_runs = record { done = run_done; one = one_lane }
