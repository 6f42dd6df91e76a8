-- Lanes of listed shares that numbers 7 to 11 do not turn away: those that a message is near, and those that none is.
use Rattle.std.specs.Prelude.{◌↔◌}
use mathlib.Core.Path.{◌≡◌, sym, ap, ◌∙◌}
use mathlib.Core.Bool.{Bool, true, false, not, true≢false}
use mathlib.Core.List.{List}
use Prim.Native.Nat.{ℕ, ◌+◌, ◌*◌, ◌<◌}
use native.Mathlib.Omega.{arith}
use borrow.Author.Tests.{eqb-false, ne_eqb, not-true}
use lib.Dec.{eqb}
use lib.ListN.{length}
use Rattle.lists.specs.Search.{first_false}
use Rattle.lists.specs.Numbers.{all_below}
use Rattle.lists.proofs.Cases.{by_test}
use Rattle.lists.proofs.Search.{search_high, search_passes, search_fails}
use Rattle.layout.specs.Layout.{share_layout}
use Rattle.layout.specs.Width.{symbols_of}
use Rattle.layout.proofs.Buffers.{length_lane, lane_symbols}
use Rattle.layout.proofs.LaneParts.{lanes_long}
use Rattle.layout.proofs.Places.{share_lawful}
use Rattle.layout.proofs.Readings.{count_symbols}
use Rattle.generator.specs.declared.Header.{Header}
use Rattle.generator.specs.Records.{size, width, Sound}
use Rattle.generator.proofs.Widths.{width_some}
use Rattle.near_message.specs.Nearest.{has_near_message, near_message}
use Rattle.near_message.specs.Inner.Listed.{ListedSymbols}
use Rattle.near_message.proofs.Messages.{near_message_is, near_message_near}
use Rattle.correct_listed.specs.Blocks.{first_far_listed, far_listed_bad}
use Rattle.correct_listed.specs.Promise.{listed_fault}
use Rattle.correct_listed.specs.Meaning.{NearMessage, listed_lane}
use Rattle.correct_listed.proofs.Accepts.{listed_accepts}
use Rattle.correct_listed.proofs.Meaning.{test_near, near_test}

-- some lane has no message within (s − k)/2 of its symbols
abbrev pub SomeFar : Header → ℕ → List ℕ → List ℕ → Type 0
SomeFar h l nodes shares = (t : ℕ) × (t < l) × ((ms : List ℕ) → NearMessage h nodes (listed_lane h nodes l shares t) ms → ⊥)

module _ (h : Header) (s : Sound h) (l : ℕ) (nodes shares : List ℕ) (out counts : ℕ) (none : listed_fault h l nodes shares out counts ≡ 0) where
  pub symbols_long : length (symbols_of (width h) shares) ≡ length nodes * l
  symbols_long =
      let (m, b, size_is, many) = listed_accepts h l nodes shares out counts none in
      count_symbols (width h) (length nodes * l) shares (width_some h) (b.bytes ∙ sym (lanes_long (width h) (length nodes) l))

  pub symbols_below : all_below (size h) (symbols_of (width h) shares) ≡ true
  symbols_below = let (m, b, size_is, many) = listed_accepts h l nodes shares out counts none in b.symbols

  module _ (t : ℕ) (inside : t < l) where
    abbrev ys : List ℕ
    ys = listed_lane h nodes l shares t

    pub lane_listed : ListedSymbols h nodes ys
    lane_listed =
        let (m, b, size_is, many) = listed_accepts h l nodes shares out counts none in
        record {
          low = m.low;
          different = m.different;
          enough = m.enough;
          long = length_lane share_layout (length nodes) l t (symbols_of (width h) shares);
          symbols = lane_symbols share_lawful (length nodes) l (size h) t (symbols_of (width h) shares) inside symbols_long symbols_below;
        }

    -- the test of a lane
    near_there : has_near_message h nodes ys ≡ true → NearMessage h nodes ys (near_message h nodes ys)
    near_there e = let found = near_message_near h s nodes ys lane_listed e in test_near found.0 found.1

    none_there : has_near_message h nodes ys ≡ false → (ms : List ℕ) → NearMessage h nodes ys ms → ⊥
    none_there e ms n = true≢false (sym (near_message_is h s nodes ys lane_listed ms n.message (near_test n)).0 ∙ e)

  -- number 14 says that some lane is too far
  pub far_listed_means : (far_listed_bad share_layout h nodes l shares ≡ true) ↔ SomeFar h l nodes shares
  unfolding far_listed_bad first_far_listed
  far_listed_means = (
    λ bad.
        let other = eqb-false first l (not-true _ bad) in
        let low : first < 0 + l = omega (arith, other, search_high l 0 test) in
        (first, omega arith, none_there first (omega arith) (search_fails l 0 test low)),
    λ e.
        let (t, inside, no_message) = e in
        let far : test t ≡ false = by_test (test t) (λ near. absurd (no_message _ (near_there t inside near))) (λ far. far) in
        ap not (ne_eqb first l (λ all. true≢false (sym (search_passes l 0 test t (omega arith) (omega (arith, all, inside))) ∙ far))),
  )
    where
      test : ℕ → Bool
      test t = has_near_message h nodes (listed_lane h nodes l shares t)

      first : ℕ
      first = first_false l 0 test
