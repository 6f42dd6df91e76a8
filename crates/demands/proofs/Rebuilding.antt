-- What one bad read does to Rebuild, from what the call promises.
use Rattle.std.specs.Prelude.{Ok}
use mathlib.Core.Path.{◌≡◌, sym, ap, ◌∙◌}
use mathlib.Core.Bool.{true, false}
use mathlib.Core.List.{List}
use Prim.Native.Nat.{ℕ, ◌<◌}
use native.Mathlib.Decide.{ℕ_discrete}
use native.Mathlib.Nat.{zero-add}
use native.Mathlib.Omega.{arith}
use lib.ListN.{length, get_or, set, length-set}
use lib.Seq.{get_or-set_same, get_or-set_other, ext_get_or}
use Rattle.lists.specs.Numbers.{is_in}
use Rattle.lists.proofs.Rows.{from_ext, get_or_from}
use Rattle.layout.specs.Layout.{row_after_row, share_layout, lane_of}
use Rattle.layout.specs.Width.{symbols_of, bytes_of}
use Rattle.layout.proofs.Buffers.{length_lane, get_or_lane}
use Rattle.layout.proofs.Places.{share_lawful}
use Rattle.layout.proofs.Widths.{symbols_bytes}
use Rattle.generator.specs.declared.Header.{Header}
use Rattle.generator.proofs.Widths.{width_some}
use Rattle.generator.specs.Records.{header_of, width, Sound}
use Rattle.generator.specs.Codewords.{node_of}
use Rattle.generator.specs.Claims.{is_message, are_nodes, at_nodes}
use Rattle.generator.proofs.Recovery.{one_message}
use Rattle.generator.proofs.Answered.{done_is}
use Rattle.refusals.specs.Faults.{fault_of}
use Rattle.recover.specs.Promise.{rebuild_fault, RebuildSays}
use Rattle.recover.proofs.Accepts.{rebuild_accepts}
use Rattle.refusals.proofs.OnRecord.{none_met}
use Rattle.blocks.specs.Blocks.{share_at, share_of, MessageFor}
use Rattle.blocks.specs.Bytes.{RebuiltBytes}
use Rattle.blocks.proofs.Messages.{lane_message}
use Rattle.recover.proofs.Laws.{rebuild_law}
use Rattle.demands.specs.Rebuilding.{read_at, OneOff, rebuilt_at, BadRead}
use Rattle.demands.proofs.Changes.{reaches}

module _ (h : Header) (l target : ℕ) (m out : List ℕ) (is : out ≡ bytes_of (width h) (share_of h l m target)) where
  -- what a rebuilt share has in a lane
  rebuilt_lane : (q : ℕ) → q < l → rebuilt_at h out q ≡ node_of h (lane_of row_after_row h.k l q m) target
  unfolding rebuilt_at share_of share_at
  rebuilt_lane q inside =
      ap (λ (s : List ℕ). get_or (symbols_of (width h) s) q 0) is
      ∙ ap (λ (s : List ℕ). get_or s q 0) (symbols_bytes (width h) (share_of h l m target) (width_some h))
      ∙ get_or_from (share_at h l m target) 0 l q 0 inside
      ∙ ap (share_at h l m target) (zero-add q)

module _ (h : Header) (l i t : ℕ) (shares wrong : List ℕ) (off : OneOff h l i t shares wrong) where
  -- the lane that was misread: one symbol is replaced
  misread_lane : lane_of share_layout h.k l t (symbols_of (width h) wrong) ≡ set (lane_of share_layout h.k l t (symbols_of (width h) shares)) i (read_at h l wrong i t)
  unfolding read_at
  misread_lane =
      let S = lane_of share_layout h.k l t (symbols_of (width h) shares) in
      let W = lane_of share_layout h.k l t (symbols_of (width h) wrong) in
      let long : length S ≡ h.k = length_lane share_layout h.k l t (symbols_of (width h) shares) in
      let size_is : length W ≡ h.k = length_lane share_layout h.k l t (symbols_of (width h) wrong) in
      ext_get_or 0 W (set S i (read_at h l wrong i t)) (size_is ∙ sym (length-set S i (read_at h l wrong i t) ∙ long))
      (λ e b. get_or_lane share_layout h.k l t (symbols_of (width h) wrong) e (omega arith) ∙ sym (at e (omega arith) (ℕ_discrete e i)))
    where
      at : (e : ℕ) → e < h.k → Dec (e ≡ i) → get_or (set (lane_of share_layout h.k l t (symbols_of (width h) shares)) i (read_at h l wrong i t)) e 0 ≡ read_at h l wrong e t
      at e b (yes q) = rw q (get_or-set_same (lane_of share_layout h.k l t (symbols_of (width h) shares)) i (read_at h l wrong i t) 0 (omega (arith, off.place, length_lane share_layout h.k l t (symbols_of (width h) shares))))
      at e b (no q) =
          get_or-set_other (lane_of share_layout h.k l t (symbols_of (width h) shares)) i e (read_at h l wrong i t) 0 q
          ∙ get_or_lane share_layout h.k l t (symbols_of (width h) shares) e b
          ∙ sym (off.elsewhere e t b off.lane (λ both. q both.0))

  -- every other lane
  other_lane : (q : ℕ) → q < l → (q ≡ t → ⊥) → lane_of share_layout h.k l q (symbols_of (width h) wrong) ≡ lane_of share_layout h.k l q (symbols_of (width h) shares)
  unfolding lane_of read_at
  other_lane q inside other = from_ext _ _ 0 h.k (λ e low high. off.elsewhere e q (omega arith) inside (λ both. other both.1))

  module _ (s : Sound h) (nodes : List ℕ) (different : are_nodes h nodes ≡ true) (target : ℕ) (low : target < h.n) (outside : is_in target nodes ≡ false) (m u : List ℕ) (read : MessageFor share_layout h l nodes (symbols_of (width h) shares) m) (misread : MessageFor share_layout h l nodes (symbols_of (width h) wrong) u) where
    message : (q : ℕ) → q < l → is_message h (lane_of row_after_row h.k l q m) ≡ true
    message q inside = lane_message h l m q inside read.size_is read.symbols

    message' : (q : ℕ) → q < l → is_message h (lane_of row_after_row h.k l q u) ≡ true
    message' q inside = lane_message h l u q inside misread.size_is misread.symbols

    lane_off : node_of h (lane_of row_after_row h.k l t u) target ≡ node_of h (lane_of row_after_row h.k l t m) target → ⊥
    unfolding read_at
    lane_off =
        let M = lane_of row_after_row h.k l t m in
        let held_is : at_nodes h M nodes ≡ lane_of share_layout h.k l t (symbols_of (width h) shares) = read.lanes t off.lane in
        (reaches h s).elsewhere nodes M (lane_of row_after_row h.k l t u) i (read_at h l wrong i t) target different (message t off.lane) (message' t off.lane) off.place
        (λ e. off.there (e ∙ ap (λ (v : List ℕ). get_or v i 0) held_is ∙ get_or_lane share_layout h.k l t (symbols_of (width h) shares) i off.place))
        (misread.lanes t off.lane ∙ misread_lane ∙ ap (λ (v : List ℕ). set v i (read_at h l wrong i t)) (sym held_is))
        low outside

    lane_same : (q : ℕ) → q < l → (q ≡ t → ⊥) → node_of h (lane_of row_after_row h.k l q u) target ≡ node_of h (lane_of row_after_row h.k l q m) target
    lane_same q inside other =
        ap (λ (v : List ℕ). node_of h v target)
        (one_message h s nodes (lane_of row_after_row h.k l q u) (lane_of row_after_row h.k l q m) different (message' q inside) (message q inside) (misread.lanes q inside ∙ other_lane q inside other ∙ sym (read.lanes q inside)))

-- what a call that is done relied on and gave
done_call : (rec : List ℕ) (l : ℕ) (nodes shares : List ℕ) (target : ℕ) (out out' : List ℕ) → RebuildSays rec l nodes shares target out out' (Ok tt) → Sound (header_of rec) × (are_nodes (header_of rec) nodes ≡ true) × (target < (header_of rec).n) × RebuiltBytes share_layout (header_of rec) l nodes shares target out'
done_call rec l nodes shares target out out' says =
    let none = done_is (fault_of rec (λ h. rebuild_fault h l nodes shares target (length out))) _ says.promise.answered in
    let (s, own) = none_met rec (λ h. rebuild_fault h l nodes shares target (length out)) none in
    let (listed, low, size_is) = rebuild_accepts (header_of rec) s l nodes shares target (length out) own in
    (s, listed.different, low, rw none at (rebuild_law share_lawful rec l nodes shares out out' (Ok tt) target says))

pub bad_read : BadRead
unfolding RebuiltBytes
bad_read rec l i t nodes shares wrong target out out' off off' one two differ outside =
    let h = header_of rec in
    let (s, different, low, (m, read, is)) = done_call rec l nodes shares target out out' one in
    let (s', different', low', (u, misread, is')) = done_call rec l nodes wrong target off off' two in
    record {
      there = λ e. lane_off h l i t shares wrong differ s nodes different target low outside m u read misread (sym (rebuilt_lane h l target u off' is' t differ.lane) ∙ e ∙ rebuilt_lane h l target m out' is t differ.lane);
      elsewhere = λ q inside other. rebuilt_lane h l target u off' is' q inside ∙ lane_same h l i t shares wrong differ s nodes different target low outside m u read misread q inside other ∙ sym (rebuilt_lane h l target m out' is q inside);
    }
