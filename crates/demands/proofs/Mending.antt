-- The single changes that make a lane a word: the sentences, proved.
use Rattle.std.specs.Prelude.{Ok, Err}
use Rattle.generator.specs.Answers.{Answer, answer_of}
use mathlib.Core.Path.{◌≡◌, ◌∙◌}
use mathlib.Core.List.{List}
use mathlib.Core.Logic.{by_cases}
use Prim.Native.Nat.{ℕ}
use native.Mathlib.Decide.{ℕ_discrete}
use lib.ListN.{length}
use Rattle.layout.specs.Width.{bytes_of}
use Rattle.generator.specs.Records.{header_of, width}
use Rattle.generator.proofs.Accepts.{faultless_sound}
use Rattle.generator.proofs.Answered.{answer_refused}
use Rattle.refusals.specs.Faults.{fault_of}
use Rattle.refusals.proofs.OnRecord.{none_met}
use Rattle.mends.specs.Mends.{mend_nodes, mend_symbols, Mends}
use Rattle.mends.specs.Promise.{mends_fault, in_front, MendsSay}
use Rattle.mends.proofs.Accepts.{mends_accepts}
use Rattle.mends.proofs.Meaning.{mends}
use Rattle.demands.specs.Calls.{read}
use Rattle.demands.specs.Mending.{SingleMends}

call : (rec lane nodes symbols nodes' symbols' : List ℕ) (r : Answer ℕ) → MendsSay rec lane nodes symbols nodes' symbols' r → ((g : ℕ) → r ≡ Err g → ⊥) → (r ≡ Ok (length (mend_nodes (header_of rec) (read (header_of rec) lane)))) × (nodes' ≡ in_front (mend_nodes (header_of rec) (read (header_of rec) lane)) nodes) × (symbols' ≡ in_front (bytes_of (width (header_of rec)) (mend_symbols (header_of rec) (read (header_of rec) lane))) symbols) × Mends (header_of rec) (read (header_of rec) lane)
unfolding answer_of
call rec lane nodes symbols nodes' symbols' r says other =
    let h = header_of rec in
    let promise = says.listed.promise in
    let number = fault_of rec (λ h. mends_fault h lane (length nodes) (length symbols)) in
    let none = by_cases (ℕ_discrete number 0) (λ z. z) (λ some. absurd (other number (promise.answered ∙ answer_refused number _ some))) in
    let (sound, own) = none_met rec (λ h. mends_fault h lane (length nodes) (length symbols)) none in
    (rw none at promise.answered, rw none at promise.nodes_written, rw none at promise.symbols_written, mends h sound (read h lane) (mends_accepts h lane (length nodes) (length symbols) own).lane_is)

pub single_mends : SingleMends
single_mends =
    record {
      accepted = λ rec none. mends (header_of rec) (faultless_sound rec none);
      call = call;
    }
