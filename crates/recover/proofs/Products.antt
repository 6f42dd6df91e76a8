-- The products of listed shares with the rows of the inverse are the message.
use mathlib.Core.Path.{◌≡◌, sym, ap, ◌∙◌}
use mathlib.Core.Bool.{true}
use mathlib.Core.List.{List}
use Prim.Native.Nat.{ℕ, ◌≤◌}
use native.Mathlib.Omega.{arith}
use Rattle.lists.specs.Padded.{padded}
use Rattle.layout.specs.Layout.{row_after_row, lane_after_lane, held, lane_of, buffer, share_layout}
use Rattle.layout.specs.Width.{symbols_of, bytes_of}
use Rattle.layout.proofs.Lawful.{by_row, by_lane}
use Rattle.layout.proofs.Buffers.{get_or_lane, length_lane, buffer_ext, buffer_held}
use Rattle.layout.proofs.Places.{share_by_lane}
use Rattle.field.specs.Inner.Sums.{dot}
use Rattle.generator.specs.declared.Header.{Header}
use Rattle.generator.specs.Records.{modulus_of, width}
use Rattle.generator.specs.Claims.{are_nodes}
use Rattle.refusals.specs.Accepted.{SymbolRows, ListedShares}
use Rattle.blocks.specs.Blocks.{recovered}
use Rattle.blocks.specs.Bytes.{recovered_bytes}
use Rattle.blocks.proofs.Messages.{lane_message}
use Rattle.blocks.proofs.Recovered.{recovered_message}
use Rattle.interpolation.proofs.PaddedSums.{dot_padded}
use Rattle.recover_matrix.specs.Inner.Inverse.{inverse_row}
use Rattle.recover_matrix.proofs.Rows.{row_recovers, length_row}

-- the products are the recovered message
products_recovered : {h : Header} {l : ℕ} {xs : List ℕ} (nodes : List ℕ) → SymbolRows h h.k l xs → are_nodes h nodes ≡ true → h.k ≤ 255 → buffer row_after_row h.k l (λ r t. dot (modulus_of h) (lane_of lane_after_lane h.k l t xs) (inverse_row h nodes r)) ≡ recovered lane_after_lane h l nodes xs
products_recovered {h} {l} {xs} nodes rows different few =
    let s = rows.sound in
    let m = recovered lane_after_lane h l nodes xs in
    let is = recovered_message h s nodes different by_lane l xs rows.long rows.symbols in
    buffer_ext by_row h.k l _ (held row_after_row h.k l m)
    (λ r t row inside.
    sym (dot_padded (modulus_of h) 255 (lane_of lane_after_lane h.k l t xs) (inverse_row h nodes r) (length_lane lane_after_lane h.k l t xs ∙ sym (length_row h s few nodes different r)))
    ∙ ap (λ (w : List ℕ). dot (modulus_of h) w (padded 255 (inverse_row h nodes r))) (sym (is.lanes t inside))
    ∙ sym ((row_recovers h s few nodes different r row).gives (lane_of row_after_row h.k l t m) (lane_message h l m t inside is.size_is is.symbols))
    ∙ get_or_lane row_after_row h.k l t m r row)
    ∙ buffer_held by_row h.k l m is.size_is

-- as bytes
pub recovered_lanes : {h : Header} {l : ℕ} {nodes shares out : List ℕ} → ListedShares h l nodes shares → out ≡ bytes_of (width h) (buffer row_after_row h.k l (λ r t. dot (modulus_of h) (lane_of lane_after_lane h.k l t (symbols_of (width h) shares)) (inverse_row h nodes r))) → out ≡ recovered_bytes share_layout h l nodes shares
unfolding recovered_bytes
recovered_lanes {h} {nodes = nodes} listed e =
    let rows = listed.buffer.symbol_rows in
    let sound = rows.sound in
    rw share_by_lane (e ∙ ap (bytes_of (width h)) (products_recovered nodes rows listed.different (omega (arith, sound.fits, sound.byte))))
