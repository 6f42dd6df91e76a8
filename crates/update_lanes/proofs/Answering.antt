-- A run that no number turns away: its rows are added, and the count is of the symbols that differ.
use Rattle.std.specs.Prelude.{Ok}
use mathlib.Core.Path.{◌≡◌, sym, ap, ◌∙◌}
use mathlib.Core.List.{List}
use Prim.Native.Nat.{ℕ}
use Rattle.lists.specs.Counting.{differ}
use Rattle.layout.specs.Width.{symbols_of, bytes_of}
use Rattle.layout.proofs.Widths.{symbols_bytes}
use Rattle.generator.specs.declared.Header.{Header}
use Rattle.generator.specs.Records.{width}
use Rattle.generator.specs.Answers.{answer_of}
use Rattle.generator.proofs.Widths.{width_some}
use Rattle.refusals.proofs.Order.{first_given}
use Rattle.update_lanes.specs.Runs.{run_length, first_number, lane_fault, run_symbols, run_bytes, run_count}
use Rattle.update_lanes.specs.Promise.{run_input_fault, run_fault, RunPromise}

module _ (h : Header) (l r first : ℕ) (old new shares : List ℕ) where
  -- what is given meets a number ..
  pub run_met : (g : ℕ) → g ≡ run_input_fault h l r first old new shares → (g ≡ 0 → ⊥) → run_fault h l r first old new shares ≡ g
  unfolding run_fault
  run_met g e some = rw (← e) (first_given g _ some)

  -- .. or none, so that of the lanes counts
  pub run_judged : (g : ℕ) → run_input_fault h l r first old new shares ≡ 0 → g ≡ first_number (run_length h old) 0 (lane_fault h l r first (symbols_of (width h) old) (symbols_of (width h) shares)) → run_fault h l r first old new shares ≡ g
  unfolding run_fault
  run_judged g none e = rw none (sym e)

  pub run_says : (shares' : List ℕ) (f count : ℕ) → f ≡ 0 → shares' ≡ bytes_of (width h) (run_symbols h l r first old new shares) → count ≡ differ (symbols_of (width h) shares) (run_symbols h l r first old new shares) → RunPromise l r first old new shares shares' (Ok count) h f
  unfolding answer_of run_bytes run_count
  run_says shares' f count none done counted = record { answered = rw (none, counted); written = rw (none, done) }

  -- the count is of the symbols that differ from those written
  pub run_symbols_differ : (shares' : List ℕ) → shares' ≡ run_bytes h l r first old new shares → run_count h l r first old new shares ≡ differ (symbols_of (width h) shares) (symbols_of (width h) shares')
  unfolding run_bytes run_count
  run_symbols_differ shares' e = ap (differ (symbols_of (width h) shares)) (sym (ap (symbols_of (width h)) e ∙ symbols_bytes (width h) _ (width_some h)))
