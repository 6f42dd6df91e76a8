-- What holds where no number is met: each lane has n symbols; and what the call says beside a number.
use Rattle.std.specs.Prelude.{Ok, Err}
use Rattle.generator.specs.Answers.{Answer}
use mathlib.Core.Path.{◌≡◌, sym}
use mathlib.Core.List.{List}
use Prim.Native.Nat.{ℕ, ◌*◌}
use lib.ListN.{length}
use Rattle.lists.proofs.Cases.{when_zero}
use Rattle.layout.specs.Width.{symbols_of}
use Rattle.generator.specs.declared.Header.{Header}
use Rattle.generator.specs.Records.{record_of, width}
use Rattle.generator.proofs.Accepts.{accepted_sound}
use Rattle.generator.proofs.Answered.{answer_refused}
use Rattle.refusals.specs.Conditions.{length_bad, symbols_bad}
use Rattle.refusals.proofs.Accepts.{not_met, lane_accepts}
use Rattle.refusals.specs.Accepted.{IsLane}
use Rattle.find_update.specs.Promise.{find_fault, Found, FindPromise}
use Rattle.find_update.proofs.Meaning.{finds}

-- both lanes have n symbols, and as many bytes as these take
pub record Lanes (h : Header) (before after : List ℕ) : Type 0 where
  pub first : IsLane h (symbols_of (width h) before)
  pub second : IsLane h (symbols_of (width h) after)
  pub first_long : length before ≡ h.n * width h
  pub second_long : length after ≡ h.n * width h

pub find_accepts : (h : Header) (before after : List ℕ) → find_fault h before after ≡ 0 → Lanes h before after
unfolding find_fault
find_accepts h before after e =
    let (one, a) = not_met (length_bad (h.n * width h) (length before)) 7 _ e in
    let (two, b) = not_met (length_bad (h.n * width h) (length after)) 7 _ a in
    let (three, c) = not_met (symbols_bad h before) 10 _ b in
    let (first_long, first) = lane_accepts h before one three in
    let (second_long, second) = lane_accepts h after two (when_zero (symbols_bad h after) 10 c) in
    record { first = first; second = second; first_long = first_long; second_long = second_long }

-- beside a number
pub find_refuses : (h : Header) (g : ℕ) → (g ≡ 0 → ⊥) → (before after : List ℕ) → FindPromise before after (Err g) h g
find_refuses h g some before after = record { answered = sym (answer_refused g _ some) }

-- what holds of every two lanes of a record
pub found_lanes : (rec : List ℕ) (r : Answer Header) → record_of rec ≡ r → Found r
unfolding Found
found_lanes rec (Err f) e = tt
found_lanes rec (Ok h) e = λ us vs before after. finds h (accepted_sound rec h e) us vs before after
