-- What the call answers: the number that turns it away, or the count.
use Rattle.std.specs.Prelude.{Ok, Err}
use mathlib.Core.Path.{◌≡◌, sym, ap}
use mathlib.Core.Bool.{true, false, not}
use mathlib.Core.List.{List}
use Prim.Native.Nat.{ℕ, ◌<◌}
use native.Mathlib.Omega.{arith}
use borrow.Author.Tests.{eq-eqb, ne_eqb}
use Rattle.layout.specs.Layout.{Arrangement}
use Rattle.layout.specs.Width.{symbols_of}
use Rattle.generator.specs.declared.Header.{Header}
use Rattle.generator.specs.Records.{width}
use Rattle.generator.specs.Answers.{answer_of}
use Rattle.generator.proofs.Answered.{answer_refused}
use Rattle.blocks.proofs.Refused.{refused_value}
use Rattle.correct.specs.Blocks.{first_far, corrected_bytes, corrected_count, far_bad}
use Rattle.correct.specs.Promise.{CorrectPromise}

module _ (y : Arrangement) (h : Header) (l : ℕ) (shares : List ℕ) where
  -- a number turns the call away, and nothing is written
  pub correct_refuses : (g : ℕ) → (g ≡ 0 → ⊥) → CorrectPromise y l shares shares (Err g) h g
  correct_refuses g some = record { answered = sym (answer_refused g _ some); written = sym (refused_value g _ shares some) }

  -- no number does
  pub correct_done : (count : ℕ) (shares' : List ℕ) → shares' ≡ corrected_bytes y h l shares → count ≡ corrected_count y h l shares → CorrectPromise y l shares shares' (Ok count) h 0
  unfolding answer_of
  correct_done count shares' is number = record { answered = ap Ok number; written = is }

  -- no lane is too far from every word, or one is
  pub far_none : first_far y h l (symbols_of (width h) shares) ≡ l → far_bad y h l shares ≡ false
  unfolding far_bad
  far_none end = ap not (eq-eqb _ l end)

  pub far_met : (t : ℕ) → first_far y h l (symbols_of (width h) shares) ≡ t → t < l → far_bad y h l shares ≡ true
  unfolding far_bad
  far_met t is low = rw is (ap not (ne_eqb t l (λ e. omega arith)))
