-- Sums of listed shares with weights that rebuild a node are that node's share of the message.
use mathlib.Core.Path.{◌≡◌, sym, ap, ◌∙◌}
use mathlib.Core.List.{List}
use Prim.Native.Nat.{ℕ, ◌<◌}
use native.Mathlib.Omega.{arith}
use Rattle.lists.proofs.Rows.{from_ext}
use Rattle.layout.specs.Layout.{Arrangement, row_after_row, lane_of}
use Rattle.field.specs.Inner.Sums.{dot}
use Rattle.generator.specs.declared.Header.{Header}
use Rattle.generator.specs.Records.{modulus_of}
use Rattle.blocks.specs.Blocks.{share_at, share_of, MessageFor}
use Rattle.blocks.proofs.Messages.{lane_message}
use Rattle.row_sums.specs.Inner.Combined.{combined}
use Rattle.node_weights.specs.Inner.Weights.{Rebuilds}

-- each lane's sum is what the node holds for that lane's message
pub rebuilt : {y : Arrangement} {h : Header} {l : ℕ} {nodes shares m : List ℕ} → MessageFor y h l nodes shares m → (target : ℕ) (ws : List ℕ) → Rebuilds h nodes target ws → combined y (modulus_of h) h.k l ws shares ≡ share_of h l m target
unfolding combined share_of share_at
rebuilt {h = h} {l = l} {m = m} is target ws w =
    from_ext _ (share_at h l m target) 0 l
    (λ t low high.
    let inside : t < l = omega arith in
    ap (λ (ys : List ℕ). dot (modulus_of h) ys ws) (sym (is.lanes t inside))
    ∙ sym (w.gives (lane_of row_after_row h.k l t m) (lane_message h l m t inside is.size_is is.symbols)))
