-- A run of lanes in which one symbol of the message changes: lane first + i from symbol i of `old` to symbol i of `new`.
use Rattle.std.specs.Prelude.{Bool, false, ◌||◌, List, ℕ, zero, suc, ◌+◌, ◌/◌, length, get_or}
use Rattle.lists.specs.Choice.{first_of}
use Rattle.lists.specs.Counting.{differ}
use Rattle.layout.specs.Layout.{lane_of, share_layout}
use Rattle.layout.specs.Width.{symbols_of, bytes_of}
use Rattle.generator.specs.declared.Header.{Header}
use Rattle.generator.specs.Records.{width}
use Rattle.refusals.specs.Conditions.{lane_bad}
use Rattle.refusals.specs.Faults.{stale_fault}
use Rattle.blocks.specs.Blocks.{updated}

-- how many lanes the run has: as many as there are symbols
abbrev pub run_length : Header → List ℕ → ℕ
run_length h old = length old / width h

-- of so many numbers g i, g (i + 1), .. the first that is not 0, or 0
unfoldable pub first_number : ℕ → ℕ → (ℕ → ℕ) → ℕ
first_number zero i g = 0
first_number (suc more) i g = first_of (g i) (first_number more (i + 1) g)

-- some of so many numbers from i on passes
unfoldable pub any_from : ℕ → ℕ → (ℕ → Bool) → Bool
any_from zero i passes = false
any_from (suc more) i passes = passes i || any_from more (i + 1) passes

-- number 11: some lane of so many from `first` on holds a number that is no symbol
abbrev pub run_bad : Header → ℕ → ℕ → ℕ → List ℕ → Bool
run_bad h l first long shares = any_from long 0 (λ i. lane_bad share_layout h l (first + i) shares)

-- lane first + i by itself: whether it may change from symbol i of `old`
abbrev pub lane_fault : Header → ℕ → ℕ → ℕ → List ℕ → List ℕ → ℕ → ℕ
lane_fault h l r first old s i = stale_fault h (lane_of share_layout h.n l (first + i) s) r (get_or old i 0)

-- the shares after i lanes have changed, from `first` on: (new − old) times row r is added to each
unfoldable pub run_updated : Header → ℕ → ℕ → ℕ → List ℕ → List ℕ → ℕ → List ℕ → List ℕ
run_updated h l r first old new zero s = s
run_updated h l r first old new (suc i) s = updated share_layout h l r (first + i) (get_or old i 0) (get_or new i 0) (run_updated h l r first old new i s)

-- the shares as symbols after all of the run, which is lent as bytes
abbrev pub run_symbols : Header → ℕ → ℕ → ℕ → List ℕ → List ℕ → List ℕ → List ℕ
run_symbols h l r first old new shares = let w = width h in run_updated h l r first (symbols_of w old) (symbols_of w new) (run_length h old) (symbols_of w shares)

-- as bytes, and how many symbols differ then
unfoldable pub run_bytes : Header → ℕ → ℕ → ℕ → List ℕ → List ℕ → List ℕ → List ℕ
run_bytes h l r first old new shares = bytes_of (width h) (run_symbols h l r first old new shares)

unfoldable pub run_count : Header → ℕ → ℕ → ℕ → List ℕ → List ℕ → List ℕ → ℕ
run_count h l r first old new shares = differ (symbols_of (width h) shares) (run_symbols h l r first old new shares)
