-- The demands and the change requests, as statements over what the calls promise. What is where:
--   Demands         all of it in one statement
--   FieldLaws       what every kind of field meets
--   Judging         tables of numbers, and what it is that the lowest number met is given
--   Numbers         the table of each call: what each number is given for, in plain terms
--   Refusals, RosterRefusals, Interface    demand 1 of each call, of a roster's calls, and of the interface for C
--   Coding          demand 2 of the definitions; Updates  demand 3's sentence on updates; Calls  both of the calls themselves; RoundTrips  one call after the other
--   Plans, Sheets, Widths, Tables, Findings, Corrections, ListedCorrections, Rosters, BadReads, Differences, UpdateRuns, Weights, SmallPlans, Mending, Repairs, BytesInSymbols    a subject each
pub mod Coding
pub mod Updates
pub mod UpdateRuns
pub mod Calls
pub mod RoundTrips
pub mod Judging
pub mod Numbers
pub mod Refusals
pub mod RosterRefusals
pub mod Plans
pub mod Widths
pub mod Sheets
pub mod FieldLaws
pub mod Tables
pub mod Findings
pub mod Rosters
pub mod BadReads
pub mod Weights
pub mod SmallPlans
pub mod Mending
pub mod Interface
pub mod Demands
pub mod LaneAfterLane
pub mod Corrections
pub mod ListedCorrections
pub mod Changes
pub mod Differences
pub mod Rebuilding
pub mod Repairs
pub mod BytesInSymbols
