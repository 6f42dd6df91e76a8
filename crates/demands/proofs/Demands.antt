-- The demands and the change requests, proved for every record, every scheme and every call.
use Rattle.scheme.proofs.Bounds.{price}
use Rattle.generator.specs.Records.{header_of, modulus_of}
use Rattle.generator.proofs.Accepts.{faultless_sound}
use Rattle.generator.proofs.Claims.{ours}
use Rattle.generator.proofs.Pinned.{pinned}
use Rattle.generator.proofs.SchemeOf.{our_scheme, scheme_least}
use Rattle.demands.proofs.LaneAfterLane.{lane_after_lane_lem}
use Rattle.demands.proofs.Corrections.{corrections}
use Rattle.demands.proofs.ListedCorrections.{listed_corrections}
use Rattle.demands.specs.Demands.{Demands}
use Rattle.demands.proofs.FieldLaws.{field_laws}
use Rattle.demands.proofs.Refusals.{refusals}
use Rattle.demands.proofs.RosterRefusals.{roster_refusals}
use Rattle.demands.proofs.Interface.{interface}
use Rattle.demands.proofs.Coding.{code_demands}
use Rattle.demands.proofs.Updates.{update_demands}
use Rattle.demands.proofs.UpdateRuns.{update_runs}
use Rattle.demands.proofs.Calls.{call_demands}
use Rattle.demands.proofs.RoundTrips.{round_trips}
use Rattle.demands.proofs.Plans.{plans}
use Rattle.demands.proofs.Widths.{widths}
use Rattle.demands.proofs.Sheets.{sheets}
use Rattle.demands.proofs.Tables.{tables}
use Rattle.demands.proofs.Findings.{findings}
use Rattle.demands.proofs.Rosters.{rosters}
use Rattle.demands.proofs.BadReads.{bad_reads}
use Rattle.demands.proofs.Differences.{row_changes}
use Rattle.demands.proofs.Weights.{weights}
use Rattle.demands.proofs.SmallPlans.{all_small_plans}
use Rattle.demands.proofs.Mending.{single_mends}
use Rattle.demands.proofs.Repairs.{repairs_all}
use Rattle.demands.proofs.BytesInSymbols.{bytes_in_symbols}

pub demands : Demands
unfolding our_scheme
demands =
    record {
      refusals = refusals;
      roster_refusals = roster_refusals;
      interface = interface;
      code = λ rec none. code_demands (header_of rec) (faultless_sound rec none);
      laws = λ rec none. field_laws (modulus_of (header_of rec)) (faultless_sound rec none).field;
      pins = pinned;
      price = λ k n S C s. price s;
      ours = λ rec none. record { code = ours (header_of rec) (faultless_sound rec none); scheme = our_scheme (header_of rec) (faultless_sound rec none) };
      least = λ rec none S C t x y two. scheme_least (header_of rec) (faultless_sound rec none) t x y two;
      updating = λ rec none. update_demands (header_of rec) (faultless_sound rec none);
      update_runs = update_runs;
      calls = call_demands;
      trips = round_trips;
      plans = plans;
      widths = widths;
      sheets = sheets;
      tables = tables;
      findings = findings;
      corrections = corrections;
      listed = listed_corrections;
      rosters = rosters;
      lanes = lane_after_lane_lem;
      bad_reads = bad_reads;
      row_changes = row_changes;
      weights = weights;
      all_small_plans = all_small_plans;
      mends = single_mends;
      repairs = repairs_all;
      bytes = bytes_in_symbols;
    }
