-- The repair by traces held against every additive repair.
use Rattle.std.specs.Prelude.{◌≡◌, true, List, ◌⊎◌, ℕ, ◌+◌, ◌-◌, ◌*◌, ◌≤◌, ◌<◌, length}
use Rattle.lists.specs.Choice.{pick}
use Rattle.lists.specs.Numbers.{is_in, distinct}
use Rattle.generator.specs.declared.Header.{Header}
use Rattle.traces.specs.Repairs.{bits, sent_digit}
use Rattle.traces.specs.Claims.{Repairing, moved_by_traces}
use Rattle.repair_bound.specs.Additive.{AdditiveRepair, sum_but}

-- the nodes that are there send b bits each, and the missing ones nothing
abbrev pub trace_bits : Header → List ℕ → ℕ → ℕ
trace_bits h missing j = pick (is_in j missing) 0 (bits h (length missing))

abbrev pub trace_sent : Header → ℕ → List ℕ → ℕ → ℕ → ℕ
trace_sent h target missing j x = pick (is_in j missing) 0 (sent_digit h target missing j x)

-- k at which n − k is 128, 64 or 16, for n = 255
abbrev pub Corner : ℕ → Type 0
Corner k = (k ≡ 127) ⊎ ((k ≡ 191) ⊎ (k ≡ 239))

-- for an accepted record of kind 2
pub record TracePrice (h : Header) : Type 0 where
  -- the repair by traces is an additive repair, whichever nodes are missing, and moves b bits of each node that is there
  pub additive : (target : ℕ) (missing : List ℕ) → Repairing h target missing → AdditiveRepair h target (trace_bits h missing) (trace_sent h target missing)
  pub total : (target : ℕ) (missing : List ℕ) → Repairing h target missing → distinct missing ≡ true → sum_but target h.n (trace_bits h missing) ≡ bits h (length missing) * (h.n - 1 - length missing)
  -- at n = 255 and k = 127, 191 or 239 no additive repair moves fewer bits
  pub least : (target : ℕ) (other : ℕ → ℕ) (sent : ℕ → ℕ → ℕ) → target < h.n → AdditiveRepair h target other sent → h.n ≡ 255 → Corner h.k → moved_by_traces h ≤ sum_but target h.n other
  -- at n = 255 with m nodes left out beside the target, k + m at most 127, it moves 254 − m bits, where every additive repair moves 2·k or more
  pub moves : (target : ℕ) (missing : List ℕ) → Repairing h target missing → distinct missing ≡ true → h.n ≡ 255 → h.k + length missing ≤ 127 → sum_but target h.n (trace_bits h missing) ≡ 254 - length missing
  pub twice : (target : ℕ) (other : ℕ → ℕ) (sent : ℕ → ℕ → ℕ) → target < h.n → AdditiveRepair h target other sent → h.k ≤ 127 → 2 * h.k ≤ sum_but target h.n other
