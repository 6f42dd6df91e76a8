-- The demands and the change requests in one statement: over every record, every scheme and every call.
use Rattle.std.specs.Prelude.{◌≡◌, ◌≢◌, List}
use Prim.Native.Nat.{ℕ, ◌≤◌, Fin}
use Rattle.scheme.specs.Schemes.{Scheme}
use Rattle.scheme.specs.Costs.{Price, CostsAtLeast}
use Rattle.generator.specs.Records.{header_of, record_fault, modulus_of}
use Rattle.generator.specs.Claims.{Accepted}
use Rattle.generator.specs.Pinned.{Pinned}
use Rattle.demands.specs.LaneAfterLane.{LaneAfterLane}
use Rattle.demands.specs.Corrections.{Corrections}
use Rattle.demands.specs.ListedCorrections.{ListedCorrections}
use Rattle.demands.specs.FieldLaws.{FieldLaws}
use Rattle.demands.specs.Refusals.{Refusals}
use Rattle.demands.specs.RosterRefusals.{RosterRefusals}
use Rattle.demands.specs.Interface.{Interface}
use Rattle.demands.specs.Coding.{CodeDemands}
use Rattle.demands.specs.Updates.{UpdateDemands}
use Rattle.demands.specs.UpdateRuns.{UpdateRuns}
use Rattle.demands.specs.Calls.{CallDemands}
use Rattle.demands.specs.RoundTrips.{RoundTrips}
use Rattle.demands.specs.Plans.{Plans}
use Rattle.demands.specs.Widths.{Widths}
use Rattle.demands.specs.Tables.{Tables}
use Rattle.demands.specs.Findings.{Findings}
use Rattle.demands.specs.Rosters.{Rosters}
use Rattle.demands.specs.BadReads.{BadReads}
use Rattle.demands.specs.Differences.{RowChanges}
use Rattle.demands.specs.Weights.{Weights}
use Rattle.demands.specs.SmallPlans.{SmallPlans}
use Rattle.demands.specs.Sheets.{Sheets}
use Rattle.demands.specs.Mending.{SingleMends}
use Rattle.demands.specs.Repairs.{Repairs}
use Rattle.demands.specs.BytesInSymbols.{BytesInSymbols}

pub record Demands : Type 1 where
  -- demand 1: which number turns a call away, that it then alters nothing, and that every other call is accepted
  pub refusals : Refusals
  -- the same of a roster's calls
  pub roster_refusals : RosterRefusals
  -- and of the interface for C
  pub interface : Interface
  -- demand 2
  pub code : (rec : List ℕ) → record_fault rec ≡ 0 → CodeDemands (header_of rec)
  -- the field of every accepted record, of whatever kind, meets the same laws
  pub laws : (rec : List ℕ) → record_fault rec ≡ 0 → FieldLaws (modulus_of (header_of rec))
  -- what the documents fix of records and rows
  pub pins : Pinned
  -- demand 3: the least writes and reads of any scheme
  pub price : (k n : ℕ) (S : Type 0) (C : Fin n → Type 0) (scheme : Scheme k n S C) → 1 ≤ k → k ≤ n → Price scheme
  -- every accepted plan is a scheme at that price ..
  pub ours : (rec : List ℕ) → record_fault rec ≡ 0 → Accepted (header_of rec)
  -- .. and every other scheme for the same k and n costs at least as much
  pub least : (rec : List ℕ) (accepted : record_fault rec ≡ 0) (S : Type 0) (C : Fin (header_of rec).n → Type 0) (scheme : Scheme (header_of rec).k (header_of rec).n S C) (x x' : S) → x ≢ x' → CostsAtLeast scheme (ours rec accepted).scheme.scheme
  -- demand 3: updates
  pub updating : (rec : List ℕ) → record_fault rec ≡ 0 → UpdateDemands (header_of rec)
  -- of a run of lanes at once
  pub update_runs : UpdateRuns
  -- both of the calls themselves
  pub calls : CallDemands
  -- one call after the other
  pub trips : RoundTrips
  -- records and plans
  pub plans : Plans
  -- the bytes of symbols in lent buffers
  pub widths : (rec : List ℕ) → record_fault rec ≡ 0 → Widths rec
  -- plan sheets
  pub sheets : Sheets
  -- the tables of the field of 256 elements
  pub tables : Tables
  -- which update it was
  pub findings : Findings
  -- setting a block right
  pub corrections : Corrections
  -- the message of listed shares of which some are wrong
  pub listed : ListedCorrections
  -- nodes that leave and return, and the nodes that jobs read
  pub rosters : Rosters
  -- shares lane after lane beside shares node after node
  pub lanes : LaneAfterLane
  -- what one bad read does
  pub bad_reads : BadReads
  -- what each node adds where a row of the message changes
  pub row_changes : RowChanges
  -- how many messages light how many nodes
  pub weights : Weights
  -- every small plan
  pub all_small_plans : SmallPlans
  -- the single changes that make a lane a word
  pub mends : SingleMends
  -- one node from a few bits of each other node
  pub repairs : Repairs
  -- bytes on any number of nodes
  pub bytes : BytesInSymbols
