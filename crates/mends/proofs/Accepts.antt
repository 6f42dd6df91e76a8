-- What holds where no number is met: a lane of n symbols, and buffers of their lengths; and what the call says beside a number.
use Rattle.std.specs.Prelude.{Ok, Err}
use Rattle.generator.specs.Answers.{Answer}
use mathlib.Core.Path.{◌≡◌, sym}
use mathlib.Core.List.{List}
use Prim.Native.Nat.{ℕ, ◌*◌}
use borrow.Author.Tests.{ne_eqb}
use lib.ListN.{length}
use Rattle.lists.proofs.Cases.{when_zero}
use Rattle.layout.specs.Width.{symbols_of}
use Rattle.generator.specs.declared.Header.{Header}
use Rattle.generator.specs.Records.{record_of, width}
use Rattle.generator.proofs.Accepts.{accepted_sound}
use Rattle.generator.proofs.Answered.{answer_refused}
use Rattle.refusals.specs.Conditions.{length_bad, symbols_bad}
use Rattle.refusals.proofs.Accepts.{not_met, lane_accepts}
use Rattle.refusals.proofs.NotMet.{length_good}
use Rattle.refusals.specs.Accepted.{IsLane}
use Rattle.mends.specs.Promise.{mends_fault, Mended, MendsPromise}
use Rattle.mends.proofs.Meaning.{mends}

-- a lane of n symbols, and two buffers of n entries
pub record Given (h : Header) (lane : List ℕ) (nodes symbols : ℕ) : Type 0 where
  pub lane_is : IsLane h (symbols_of (width h) lane)
  pub lane_long : length lane ≡ h.n * width h
  pub nodes_long : nodes ≡ h.n
  pub symbols_long : symbols ≡ h.n * width h

pub mends_accepts : (h : Header) (lane : List ℕ) (nodes symbols : ℕ) → mends_fault h lane nodes symbols ≡ 0 → Given h lane nodes symbols
unfolding mends_fault
mends_accepts h lane nodes symbols e =
    let (one, a) = not_met (length_bad (h.n * width h) (length lane)) 7 _ e in
    let (two, b) = not_met (length_bad h.n nodes) 7 _ a in
    let (three, c) = not_met (length_bad (h.n * width h) symbols) 7 _ b in
    let (long, is) = lane_accepts h lane one (when_zero (symbols_bad h lane) 10 c) in
    record { lane_is = is; lane_long = long; nodes_long = length_good _ _ two; symbols_long = length_good _ _ three }

-- beside a number
pub mends_refuses : (h : Header) (g : ℕ) → (g ≡ 0 → ⊥) → (lane nodes symbols : List ℕ) → MendsPromise lane nodes symbols nodes symbols (Err g) h g
mends_refuses h g some lane nodes symbols =
    let other = ne_eqb g 0 some in record { answered = sym (answer_refused g _ some); nodes_written = rw other; symbols_written = rw other }

-- what holds of every lane of a record
pub mended_lanes : (rec : List ℕ) (r : Answer Header) → record_of rec ≡ r → Mended r
unfolding Mended
mended_lanes rec (Err f) e = tt
mended_lanes rec (Ok h) e = λ ws lane. mends h (accepted_sound rec h e) ws lane
