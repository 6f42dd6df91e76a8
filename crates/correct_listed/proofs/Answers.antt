-- What the call answers: the number that turns it away, or the sum of the counts.
use Rattle.std.specs.Prelude.{Ok, Err, sum}
use mathlib.Core.Path.{◌≡◌, sym, ap}
use mathlib.Core.Bool.{true, false, not}
use mathlib.Core.List.{List}
use Prim.Native.Nat.{ℕ, ◌<◌}
use native.Mathlib.Omega.{arith}
use borrow.Author.Tests.{eq-eqb, ne_eqb, eqb-true, not-false}
use Rattle.layout.specs.Layout.{Arrangement, lane_after_lane, share_layout}
use Rattle.layout.specs.Width.{symbols_of, bytes_of}
use Rattle.layout.proofs.Places.{share_by_lane}
use Rattle.generator.specs.declared.Header.{Header}
use Rattle.generator.specs.Records.{width}
use Rattle.generator.specs.Answers.{answer_of}
use Rattle.generator.proofs.Answered.{answer_refused}
use Rattle.blocks.proofs.Refused.{refused_value}
use Rattle.correct_listed.specs.Blocks.{near_messages, wrong_counts, first_far_listed, near_message_bytes, wrong_numbers, far_listed_bad}
use Rattle.correct_listed.specs.Promise.{CorrectListedPromise}

module _ (h : Header) (l : ℕ) (nodes shares : List ℕ) where
  module _ (y : Arrangement) where
    -- a number turns the call away, and nothing is written
    pub listed_refuses : (out wrong : List ℕ) (g : ℕ) → (g ≡ 0 → ⊥) → CorrectListedPromise y l nodes shares out out wrong wrong (Err g) h g
    listed_refuses out wrong g some = record { answered = sym (answer_refused g _ some); written = sym (refused_value g _ out some); counted = sym (refused_value g _ wrong some) }

    -- a lane is too far from every message, or none is
    pub far_met : (t : ℕ) → first_far_listed y h nodes l (symbols_of (width h) shares) ≡ t → t < l → far_listed_bad y h nodes l shares ≡ true
    unfolding far_listed_bad
    far_met t is low = rw is (ap not (ne_eqb t l (λ e. omega arith)))

    pub far_none : first_far_listed y h nodes l (symbols_of (width h) shares) ≡ l → far_listed_bad y h nodes l shares ≡ false
    unfolding far_listed_bad
    far_none end = ap not (eq-eqb _ l end)

    pub none_is_far : far_listed_bad y h nodes l shares ≡ false → first_far_listed y h nodes l (symbols_of (width h) shares) ≡ l
    unfolding far_listed_bad
    none_is_far e = eqb-true _ l (not-false _ e)

  -- no number does
  pub listed_done : {count : ℕ} {out out' wrong wrong' : List ℕ} → out' ≡ bytes_of (width h) (near_messages lane_after_lane h nodes l (symbols_of (width h) shares)) → wrong' ≡ wrong_counts lane_after_lane h nodes l (symbols_of (width h) shares) → count ≡ sum wrong' → CorrectListedPromise share_layout l nodes shares out out' wrong wrong' (Ok count) h 0
  unfolding answer_of near_message_bytes wrong_numbers
  listed_done message counts total = rw share_by_lane record { answered = ap Ok (rw counts at total); written = message; counted = counts }
