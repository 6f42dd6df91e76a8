-- Lanes as parts of the bytes of the shares: what is lent of them, and what is written there.
use mathlib.Core.Path.{◌≡◌, sym, ap, ◌∙◌}
use mathlib.Core.Bool.{true}
use mathlib.Core.List.{List}
use Prim.Native.Nat.{ℕ, ◌+◌, ◌-◌, ◌*◌, ◌≤◌, ◌<◌}
use native.Mathlib.Nat.{mul_comm}
use lib.ListN.{length, get_or, take, drop}
use Rattle.lists.specs.Numbers.{all_below}
use Rattle.lists.proofs.Numbers.{below_take, below_drop}
use Rattle.lists.proofs.Rows.{part_length}
use Rattle.layout.specs.Layout.{Arrangement, lane_after_lane, share_layout, lane_of}
use Rattle.layout.specs.Width.{symbols_of, bytes_of}
use Rattle.layout.proofs.Places.{share_lawful, share_by_lane}
use Rattle.layout.proofs.Widths.{length_bytes, symbols_bytes}
use Rattle.layout.proofs.Readings.{count_symbols, bytes_symbols, bytes_below}
use Rattle.layout.proofs.LaneParts.{lanes_long, lane_inside, lane_part}
use Rattle.generator.specs.declared.Header.{Header}
use Rattle.generator.specs.Records.{width}
use Rattle.symbols.proofs.Fits.{symbols_fit}
use Rattle.nearest_word.specs.Nearest.{corrected}
use Rattle.correct.specs.Blocks.{corrected_shares, corrected_bytes}
use Rattle.correct.specs.Inner.Marked.{MarkedLane, MarkedShares}
use Rattle.correct.proofs.Shares.{is_lane, lane_corrected, length_corrected, corrected_symbols}

module _ {h : Header} {l : ℕ} {marks shares : List ℕ} (m : MarkedShares h l marks shares) (some : 0 < width h) where
  abbrev w : ℕ
  w = width h

  abbrev s : List ℕ
  s = symbols_of w shares

  -- there are n symbols in each lane
  pub symbols_long : length s ≡ h.n * l
  symbols_long = count_symbols w (h.n * l) shares some (m.bytes ∙ sym (lanes_long w h.n l))

  module _ (t : ℕ) (inside : t < l) where
    abbrev pub a : ℕ
    a = t * (w * h.n)

    -- the bytes of lane t lie within the shares
    pub part_inside : a + w * h.n ≤ length shares
    part_inside = lane_inside w h.n l t shares m.bytes inside

    abbrev pub part : List ℕ
    part = take (a + w * h.n - a) (drop a shares)

    -- and are its symbols
    pub part_lane : symbols_of w part ≡ lane_of share_layout h.n l t s
    part_lane = lane_part w h.n l t shares m.bytes inside some ∙ ap (λ (y : Arrangement). lane_of y h.n l t s) (sym share_by_lane)

    pub part_marked : MarkedLane h (get_or marks t 0) part
    part_marked =
        record {
          bytes = part_length a (w * h.n) shares part_inside;
          symbols = rw part_lane (is_lane share_lawful h m.sound l s symbols_long m.symbols t inside);
          word = λ e. rw part_lane (m.words t inside e);
        }

    -- what is to be written there
    pub part_corrected : bytes_of w (corrected h (symbols_of w part)) ≡ take (a + w * h.n - a) (drop a (corrected_bytes share_layout h l shares))
    unfolding corrected_bytes
    part_corrected =
        let fixed = corrected_shares share_layout h l s in
        let whole = bytes_of w fixed in
        let long : length fixed ≡ h.n * l = length_corrected share_lawful h m.sound l s symbols_long m.symbols in
        let size : length whole ≡ w * h.n * l = length_bytes w fixed ∙ ap (λ (x : ℕ). x * w) long ∙ lanes_long w h.n l in
        let piece = take (a + w * h.n - a) (drop a whole) in
        let count : length piece ≡ h.n * w = part_length a (w * h.n) whole (lane_inside w h.n l t whole size inside) ∙ mul_comm w h.n in
        let low : all_below 256 piece ≡ true = below_take 256 (a + w * h.n - a) (drop a whole) (below_drop 256 a whole (bytes_below w fixed (symbols_fit h m.sound fixed (corrected_symbols share_lawful h m.sound l s symbols_long m.symbols)))) in
        let lane : symbols_of w piece ≡ lane_of share_layout h.n l t fixed =
        lane_part w h.n l t whole size inside some ∙ ap (lane_of lane_after_lane h.n l t) (symbols_bytes w fixed some) ∙ ap (λ (y : Arrangement). lane_of y h.n l t fixed) (sym share_by_lane) in
        ap (λ (ws : List ℕ). bytes_of w (corrected h ws)) part_lane
        ∙ ap (bytes_of w) (sym (lane_corrected share_lawful h m.sound l s symbols_long m.symbols t inside) ∙ sym lane)
        ∙ bytes_symbols w h.n piece some count low

  pub corrected_size : length (corrected_bytes share_layout h l shares) ≡ length shares
  unfolding corrected_bytes
  corrected_size =
      let fixed = corrected_shares share_layout h l s in
      length_bytes w fixed ∙ ap (λ (x : ℕ). x * w) (length_corrected share_lawful h m.sound l s symbols_long m.symbols) ∙ lanes_long w h.n l ∙ sym m.bytes
