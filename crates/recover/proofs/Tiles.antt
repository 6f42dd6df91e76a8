-- Sums over the rows of a tile are those of the lanes that it was gathered from.
use mathlib.Core.Path.{◌≡◌, refl, sym, ap, ◌∙◌}
use mathlib.Core.List.{List}
use Prim.Native.Nat.{ℕ, ◌+◌, ◌-◌, ◌*◌, ◌≤◌, ◌<◌}
use native.Mathlib.Nat.{add-zero, mul_comm, mul-le-mul, le_trans, add-sub_cancel_left}
use native.Mathlib.Omega.{arith}
use lib.ListN.{length, take, drop}
use Rattle.lists.proofs.Rows.{from_ext, from_move, length_from}
use Rattle.layout.specs.Layout.{Arrangement, row_after_row, lane_after_lane, lane_of, share_layout}
use Rattle.layout.specs.Inner.Parts.{some_lanes}
use Rattle.layout.specs.Width.{symbols_of, bytes_of}
use Rattle.layout.proofs.Widths.{length_bytes}
use Rattle.layout.proofs.LaneParts.{lanes_long, bytes_part}
use Rattle.layout.proofs.Lawful.{by_row, by_lane}
use Rattle.layout.proofs.Places.{share_by_lane}
use Rattle.layout.proofs.Runs.{lane_some}
use Rattle.tiles.proofs.Parts.{from_part}
use Rattle.field.specs.Inner.Sums.{dot}
use Rattle.generator.specs.declared.Header.{Header}
use Rattle.generator.specs.Records.{modulus_of, width, Sound}
use Rattle.generator.proofs.Widths.{width_range}
use Rattle.refusals.specs.Accepted.{ListedShares}
use Rattle.refusals.specs.Inner.Accepted.{SymbolBytes}
use Rattle.blocks.specs.Bytes.{rebuilt_bytes}
use Rattle.blocks.proofs.Recovered.{listed_message}
use Rattle.row_sums.specs.Inner.Combined.{combined}
use Rattle.node_weights.specs.Inner.Weights.{Rebuilds}
use Rattle.recover.proofs.Rebuilding.{rebuilt}

module _ (p rows l : ℕ) (s : List ℕ) (t c : ℕ) where
  -- a lane's sum
  pub sum_tile : (ws : List ℕ) (q : ℕ) → q < c → dot p (lane_of row_after_row rows c q (some_lanes lane_after_lane row_after_row rows l t c s)) ws ≡ dot p (lane_of lane_after_lane rows l (t + q) s) ws
  sum_tile ws q inside = ap (λ (w : List ℕ). dot p w ws) (lane_some by_lane by_row rows l t c s q inside)

  -- the sums of a tile are a part of those of the buffer
  pub combined_tile_lem : (ws : List ℕ) → t + c ≤ l → combined row_after_row p rows c ws (some_lanes lane_after_lane row_after_row rows l t c s) ≡ take (t + c - t) (drop t (combined lane_after_lane p rows l ws s))
  unfolding combined
  combined_tile_lem ws fits =
      from_ext _ (λ q. dot p (lane_of lane_after_lane rows l (t + q) s) ws) 0 c (λ q low high. sum_tile ws q (omega arith))
      ∙ rw add-zero at (from_move (λ q. dot p (lane_of lane_after_lane rows l q s) ws) t 0 c)
      ∙ from_part (λ q. dot p (lane_of lane_after_lane rows l q s) ws) l t c fits

  -- the same of bytes
  pub combined_part : (w : ℕ) (ws : List ℕ) → t + c ≤ l → bytes_of w (combined row_after_row p rows c ws (some_lanes lane_after_lane row_after_row rows l t c s)) ≡ take (t * w + c * w - t * w) (drop (t * w) (bytes_of w (combined lane_after_lane p rows l ws s)))
  combined_part w ws fits =
      ap (bytes_of w) (combined_tile_lem ws fits ∙ ap (λ (x : ℕ). take x (drop t (combined lane_after_lane p rows l ws s))) (add-sub_cancel_left t c))
      ∙ sym (bytes_part w t c (combined lane_after_lane p rows l ws s))
      ∙ ap (λ (x : ℕ). take x (drop (t * w) (bytes_of w (combined lane_after_lane p rows l ws s)))) (sym (add-sub_cancel_left (t * w) (c * w)))

-- a row of sums has a place for each lane
pub length_combined : (y : Arrangement) (p rows c : ℕ) (ws s : List ℕ) → length (combined y p rows c ws s) ≡ c
unfolding combined
length_combined y p rows c ws s = length_from (λ t. dot p (lane_of y rows c t s) ws) 0 c

pub length_sums : (h : Header) (w l : ℕ) (ws s : List ℕ) → length (bytes_of w (combined lane_after_lane (modulus_of h) h.k l ws s)) ≡ w * l
length_sums h w l ws s = length_bytes w _ ∙ ap (λ (x : ℕ). x * w) (length_combined lane_after_lane (modulus_of h) h.k l ws s) ∙ mul_comm l w

-- listed shares, with the bytes of a symbol told
pub listed_bytes : {h : Header} {l : ℕ} {nodes shares : List ℕ} (w : ℕ) → w ≡ width h → ListedShares h l nodes shares → SymbolBytes h w h.k l shares
listed_bytes {h} {l} w wide listed =
    rw wide record { wide = refl; bytes = listed.buffer.bytes ∙ lanes_long (width h) h.k l; symbol_rows = listed.buffer.symbol_rows }

-- a row of symbols has at most 510 bytes
pub row_small : (h : Header) → Sound h → (w : ℕ) → w ≡ width h → w * h.k ≤ 510
row_small h s w is = let two : w ≤ 2 = rw is (width_range h).1 in mul-le-mul two (le_trans s.fits s.byte)

-- sums with weights that rebuild a node are its share
pub rebuilt_lanes : {h : Header} {l : ℕ} {nodes shares out : List ℕ} → ListedShares h l nodes shares → (target : ℕ) (ws : List ℕ) → Rebuilds h nodes target ws → out ≡ bytes_of (width h) (combined lane_after_lane (modulus_of h) h.k l ws (symbols_of (width h) shares)) → out ≡ rebuilt_bytes share_layout h l nodes shares target
unfolding rebuilt_bytes
rebuilt_lanes {h} listed target ws w e = rw share_by_lane (e ∙ ap (bytes_of (width h)) (rebuilt (listed_message by_lane listed) target ws w))
