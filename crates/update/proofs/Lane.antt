-- A lane of the shares as a part that can be updated.
use mathlib.Core.Path.{◌≡◌, sym, ap, ap₂, ◌∙◌}
use mathlib.Core.Bool.{true}
use mathlib.Core.List.{List, [], ◌∷◌, ◌++◌, append-nil}
use Prim.Native.Nat.{ℕ, ◌+◌, ◌-◌, ◌*◌, ◌≤◌, ◌<◌}
use native.Mathlib.Nat.{mul_comm, mul_assoc, one-mul, add-sub_cancel_left}
use native.Mathlib.Numerals.{add-one}
use lib.ListN.{length, set, take, drop}
use lib.Seq.{drop-drop, set_split}
use Rattle.lists.specs.Counting.{differ}
use Rattle.lists.specs.Numbers.{all_below}
use Rattle.lists.proofs.Rows.{part_length}
use Rattle.layout.specs.Layout.{lane_of, share_layout}
use Rattle.layout.specs.Width.{symbols_of, symbol_bytes, bytes_of}
use Rattle.layout.proofs.Places.{share_by_lane}
use Rattle.layout.proofs.Readings.{count_symbols}
use Rattle.layout.proofs.LaneParts as Parts
use Rattle.layout.proofs.Runs as Runs
use Rattle.generator.specs.declared.Header.{Header}
use Rattle.generator.specs.Records.{width}
use Rattle.generator.proofs.Widths.{width_some}
use Rattle.refusals.specs.Accepted.{UpdatableLane}
use Rattle.blocks.specs.Blocks.{row_added, word_added}
use Rattle.blocks.proofs.Updates.{added_part, differ_part}
use Rattle.update.specs.Inner.Words.{UpdatableWord}

-- one symbol written in its place among the bytes
pub symbol_written : (w : ℕ) (s : List ℕ) (j v : ℕ) → s ≡ bytes_of w (symbols_of w s) → j < length (symbols_of w s) → take (j * w) s ++ (symbol_bytes w v ++ drop (j * w + w - j * w) (drop (j * w) s)) ≡ bytes_of w (set (symbols_of w s) j v)
unfolding bytes_of
symbol_written w s j v whole inside =
    let xs = symbols_of w s in
    ap₂ (λ (b u : List ℕ). take (j * w) u ++ (b ++ drop (j * w + w - j * w) (drop (j * w) u))) (sym (append-nil (symbol_bytes w v))) whole
    ∙ ap (λ (k : ℕ). take (j * w) (bytes_of w xs) ++ (bytes_of w (v ∷ []) ++ drop k (drop (j * w) (bytes_of w xs)))) (add-sub_cancel_left (j * w) w ∙ sym (one-mul w))
    ∙ Parts.bytes_replaced w j 1 (v ∷ []) xs
    ∙ ap (bytes_of w) (ap (λ (u : List ℕ). take j xs ++ (v ∷ u)) (drop-drop 1 j xs ∙ ap (λ (x : ℕ). drop x xs) (add-one j)) ∙ sym (set_split xs j v inside))

-- a lane by itself has a symbol for each node
pub word_long : {h : Header} {w r : ℕ} {lane : List ℕ} → UpdatableWord h w r lane → length (symbols_of w lane) ≡ h.n
word_long {h} {w} {r} {lane} ready = count_symbols w h.n lane (rw ready.wide (width_some h)) (ready.bytes ∙ mul_comm w h.n)

module _ {h : Header} {l r t : ℕ} {shares : List ℕ} (ready : UpdatableLane h l r t shares) (w : ℕ) (wide : w ≡ width h) where
  some : 0 < w
  some = rw wide (width_some h)

  long : length shares ≡ w * h.n * l
  long = ready.bytes ∙ Parts.lanes_long (width h) h.n l ∙ rw wide

  symbols_long : length (symbols_of w shares) ≡ h.n * l
  symbols_long = count_symbols w (h.n * l) shares some (ready.bytes ∙ rw wide)

  -- the bytes of the lane lie within the shares
  abbrev size : ℕ
  size = w * h.n

  pub lane_inside : t * size + size ≤ length shares
  lane_inside = Parts.lane_inside w h.n l t shares long ready.lane

  abbrev part : List ℕ
  part = take (t * size + size - t * size) (drop (t * size) shares)

  -- its symbols are the lane
  pub lane_is : symbols_of w part ≡ lane_of share_layout h.n l t (symbols_of w shares)
  lane_is = rw share_by_lane (Parts.lane_part w h.n l t shares long ready.lane some)

  -- and it can be updated
  pub lane_word : UpdatableWord h w r part
  lane_word =
      record {
        sound = ready.sound;
        wide = wide;
        row = ready.row;
        bytes = part_length (t * size) size shares lane_inside;
        symbols = rw (lane_is, wide) ready.symbols;
      }

  -- the same lane as a part of the symbols
  symbols_part : symbols_of w part ≡ take (t * h.n + h.n - t * h.n) (drop (t * h.n) (symbols_of w shares))
  symbols_part = Parts.lane_part w h.n l t shares long ready.lane some ∙ sym (Runs.lane_part h.n l (symbols_of w shares) symbols_long t ready.lane)

  module _ (low : all_below 256 shares ≡ true) (x count : ℕ) (lane : List ℕ) (is : lane ≡ bytes_of w (word_added h r x (symbols_of w part))) (counted : count ≡ differ (symbols_of w part) (word_added h r x (symbols_of w part))) where
    place : t * size ≡ t * h.n * w
    place = ap (λ (x : ℕ). t * x) (mul_comm w h.n) ∙ sym (mul_assoc t h.n w)

    -- the shares after the part was rewritten: the row is added to the lane
    pub lane_rewritten : take (t * size) shares ++ (lane ++ drop (t * size + size - t * size) (drop (t * size) shares)) ≡ bytes_of w (row_added share_layout h l r t x (symbols_of w shares))
    lane_rewritten =
        let xs = symbols_of w shares in
        let new = word_added h r x (symbols_of w part) in
        ap₂ (λ (a k : ℕ). take a shares ++ (lane ++ drop k (drop a shares))) place (add-sub_cancel_left (t * size) size ∙ mul_comm w h.n)
        ∙ ap (λ (u : List ℕ). take (t * h.n * w) shares ++ (u ++ drop (h.n * w) (drop (t * h.n * w) shares))) is
        ∙ Parts.symbols_replaced w (h.n * l) shares some (ready.bytes ∙ rw wide) low (t * h.n) h.n new
        ∙ ap (bytes_of w)
        (ap₂ (λ (u : List ℕ) (k : ℕ). take (t * h.n) xs ++ (word_added h r x u ++ drop k (drop (t * h.n) xs))) symbols_part (sym (add-sub_cancel_left (t * h.n) h.n))
        ∙ added_part h l r t x xs symbols_long ready.lane
        ∙ rw share_by_lane)

    -- and as many symbols differ as in the part
    pub lane_differs : count ≡ differ (symbols_of w shares) (row_added share_layout h l r t x (symbols_of w shares))
    lane_differs =
        counted
        ∙ ap (λ (u : List ℕ). differ u (word_added h r x u)) symbols_part
        ∙ differ_part h l r t x (symbols_of w shares) symbols_long ready.lane
        ∙ rw share_by_lane
