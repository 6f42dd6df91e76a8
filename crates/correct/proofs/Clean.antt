-- Shares with no lane marked: every lane is a word, and setting right leaves them as they are.
use Rattle.std.specs.Prelude.{Ok}
use mathlib.Core.Path.{◌≡◌, sym, ap, ◌∙◌}
use mathlib.Core.Bool.{true}
use mathlib.Core.List.{List}
use Prim.Native.Nat.{ℕ, ◌*◌, ◌<◌}
use native.Mathlib.Nat.{zero-add}
use native.Mathlib.Omega.{arith}
use lib.ListN.{length, get_or}
use Rattle.lists.specs.Choice.{when}
use Rattle.lists.specs.Counting.{differ}
use Rattle.lists.specs.Numbers.{all_below}
use Rattle.lists.proofs.Differ.{differ_same}
use Rattle.lists.proofs.Search.{search_none}
use Rattle.layout.specs.Layout.{lane_of, share_layout}
use Rattle.layout.specs.Width.{symbols_of, bytes_of}
use Rattle.layout.proofs.Places.{share_lawful}
use Rattle.layout.proofs.Buffers.{lanes_equal}
use Rattle.layout.proofs.LaneParts.{lanes_long}
use Rattle.layout.proofs.Readings.{bytes_symbols}
use Rattle.generator.specs.declared.Header.{Header}
use Rattle.generator.specs.Records.{width}
use Rattle.generator.proofs.Widths.{width_some}
use Rattle.nearest_word.specs.Nearest.{has_near}
use Rattle.nearest_word.proofs.Corrected.{word_near, word_stays}
use Rattle.correct.specs.Blocks.{corrected_shares, first_far, corrected_bytes, corrected_count, far_bad}
use Rattle.correct.specs.Promise.{CorrectPromise}
use Rattle.correct.specs.Inner.Marked.{MarkedShares}
use Rattle.correct.proofs.Answers.{correct_done, far_none}
use Rattle.correct.proofs.Shares.{is_lane, lane_corrected, length_corrected}
use Rattle.correct.proofs.LaneBytes.{symbols_long}

module _ {h : Header} {l : ℕ} {marks shares : List ℕ} (m : MarkedShares h l marks shares) (none : (t : ℕ) → t < l → get_or marks t 0 ≡ 0) where
  abbrev s : List ℕ
  s = symbols_of (width h) shares

  long : length s ≡ h.n * l
  long = symbols_long m (width_some h)

  lane_stays : (t : ℕ) → t < l → lane_of share_layout h.n l t (corrected_shares share_layout h l s) ≡ lane_of share_layout h.n l t s
  lane_stays t inside =
      let is = is_lane share_lawful h m.sound l s long m.symbols t inside in
      lane_corrected share_lawful h m.sound l s long m.symbols t inside
      ∙ word_stays h m.sound (lane_of share_layout h.n l t s) is.long is.below (m.words t inside (none t inside))

  shares_stay : corrected_shares share_layout h l s ≡ s
  shares_stay = lanes_equal share_lawful h.n l _ _ (length_corrected share_lawful h m.sound l s long m.symbols) long lane_stays

  all_near : first_far share_layout h l s ≡ l
  unfolding first_far
  all_near =
      search_none l 0 (λ t. has_near h (lane_of share_layout h.n l t s))
      (λ t above below.
      let inside : t < l = omega arith in
      let is = is_lane share_lawful h m.sound l s long m.symbols t inside in
      word_near h m.sound (lane_of share_layout h.n l t s) is.long is.below (m.words t inside (none t inside)))
      ∙ zero-add l

  -- so nothing is written, and no symbol altered
  pub clean_says : all_below 256 shares ≡ true → CorrectPromise share_layout l shares shares (Ok 0) h (when (far_bad share_layout h l shares) 14)
  unfolding corrected_bytes corrected_count
  clean_says low =
      let same : shares ≡ corrected_bytes share_layout h l shares = sym (ap (bytes_of (width h)) shares_stay ∙ bytes_symbols (width h) (h.n * l) shares (width_some h) (m.bytes ∙ sym (lanes_long (width h) h.n l)) low) in
      let count : 0 ≡ corrected_count share_layout h l shares = sym (ap (differ s) shares_stay ∙ differ_same s) in
      rw (far_none share_layout h l shares all_near) (correct_done share_layout h l shares 0 shares same count)
