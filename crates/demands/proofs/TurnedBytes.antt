-- The same as bytes, and the same numbers that turn calls away.
use mathlib.Core.Path.{◌≡◌, refl, sym, ap, ◌∙◌}
use mathlib.Core.Bool.{Bool, true, not}
use mathlib.Core.List.{List}
use Prim.Native.Nat.{ℕ, zero, suc, ◌*◌, ◌/◌, ◌<◌}
use native.Mathlib.Nat.{mul-div_cancel}
use lib.ListN.{length}
use Rattle.lists.specs.Choice.{first_of, when}
use Rattle.lists.specs.Numbers.{all_below}
use Rattle.lists.proofs.Cases.{by_test}
use Rattle.layout.specs.Layout.{Arrangement, rearranged, lane_of}
use Rattle.layout.specs.Width.{symbols_of, bytes_of}
use Rattle.layout.proofs.Lawful.{Lawful}
use Rattle.layout.proofs.Buffers.{rearranged_lane, rearranged_back}
use Rattle.layout.proofs.Readings.{bytes_symbols}
use Rattle.layout.proofs.Widths.{length_symbols, length_bytes, symbols_bytes}
use Rattle.generator.specs.declared.Header.{Header}
use Rattle.generator.specs.Records.{size, width}
use Rattle.generator.proofs.Widths.{width_some}
use Rattle.refusals.specs.Conditions.{lanes_bad, length_bad, number_bad, symbol_bad, symbols_bad, lane_bad}
use Rattle.refusals.specs.Faults.{stale_fault, list_fault}
use Rattle.belongs.specs.Promise.{belongs_fault}
use Rattle.recover.specs.Promise.{recover_fault, rebuild_fault}
use Rattle.update.specs.Promise.{input_fault, update_fault}
use Rattle.refusals.proofs.Accepts.{not_met}
use Rattle.refusals.proofs.NotMet.{number_good}
use Rattle.blocks.specs.Blocks.{share_of, updated, first_wrong, recovered}
use Rattle.blocks.specs.Bytes.{encoded_bytes, updated_bytes, altered_count, recovered_bytes, rebuilt_bytes, wrong_lane, rearranged_bytes}
use Rattle.blocks.proofs.Tiles.{shares_rearranged}
use Rattle.demands.proofs.TurnedSymbols.{length_rearranged, same_below, same_updated, same_altered, same_wrong, same_recovered}

-- the lane of an update that numbers 7 to 11 do not turn away
pub input_inside : (y : Arrangement) (h : Header) (l r t old new : ℕ) (shares : List ℕ) → input_fault y h l r t old new shares ≡ 0 → t < l
unfolding input_fault
input_inside y h l r t old new shares e =
    let (seven, b) = not_met (lanes_bad l) 6 _ e in
    let (eight, c) = not_met (length_bad (h.n * l * width h) (length shares)) 7 _ b in
    let (row, d) = not_met (number_bad h.k r) 8 _ c in
    let (lane, f) = not_met (number_bad l t) 8 _ d in
    number_good l t lane

module _ (h : Header) (rows l : ℕ) (s : List ℕ) where
  -- the symbols of a full buffer
  symbols_full : length s ≡ rows * l * width h → length (symbols_of (width h) s) ≡ rows * l
  symbols_full full = length_symbols (width h) s ∙ ap (λ (x : ℕ). x / width h) full ∙ mul-div_cancel (rows * l) (width_some h)

  -- a rearranged buffer is full, and its symbols are the symbols rearranged
  pub length_turned : (y z : Arrangement) → length (rearranged_bytes y z h rows l s) ≡ rows * l * width h
  unfolding rearranged_bytes
  length_turned y z = length_bytes (width h) _ ∙ ap (λ (x : ℕ). x * width h) (length_rearranged y z rows l (symbols_of (width h) s))

  symbols_turned : (y z : Arrangement) → symbols_of (width h) (rearranged_bytes y z h rows l s) ≡ rearranged y z rows l (symbols_of (width h) s)
  unfolding rearranged_bytes
  symbols_turned y z = symbols_bytes (width h) _ (width_some h)

-- rearranged twice, a buffer of bytes is as it was
pub turned_back : {y z : Arrangement} → Lawful y → Lawful z → (h : Header) (rows l : ℕ) (s : List ℕ) → length s ≡ rows * l * width h → all_below 256 s ≡ true → rearranged_bytes z y h rows l (rearranged_bytes y z h rows l s) ≡ s
unfolding rearranged_bytes
turned_back {y} {z} a b h rows l s full bytes =
    ap (λ (x : List ℕ). bytes_of (width h) (rearranged z y rows l x)) (symbols_bytes (width h) _ (width_some h))
    ∙ ap (bytes_of (width h)) (rearranged_back a b rows l (symbols_of (width h) s) (symbols_full h rows l s full))
    ∙ bytes_symbols (width h) (rows * l) s (width_some h) full bytes

module _ {y z : Arrangement} (a : Lawful y) (b : Lawful z) (h : Header) (l : ℕ) where
  -- the shares of a message
  pub encoded_turned : (message : List ℕ) → encoded_bytes z h l message ≡ rearranged_bytes y z h h.n l (encoded_bytes y h l message)
  unfolding encoded_bytes rearranged_bytes
  encoded_turned message =
      ap (bytes_of (width h))
      (sym (ap (rearranged y z h.n l) (symbols_bytes (width h) _ (width_some h)) ∙ shares_rearranged a b h l (symbols_of (width h) message)))

  -- number 11 of a full buffer
  same_symbols : (rows : ℕ) (s : List ℕ) → length s ≡ rows * l * width h → symbols_bad h (rearranged_bytes y z h rows l s) ≡ symbols_bad h s
  unfolding symbols_bad
  same_symbols rows s full = ap not (ap (all_below (size h)) (symbols_turned h rows l s y z) ∙ same_below a b (size h) rows l (symbols_of (width h) s) (symbols_full h rows l s full))

  module _ (shares : List ℕ) (full : length shares ≡ h.n * l * width h) where
    -- all shares, rearranged
    abbrev turned : List ℕ
    turned = rearranged_bytes y z h h.n l shares

    same_length : length turned ≡ length shares
    same_length = length_turned h h.n l shares y z ∙ sym full

    -- Belongs: the number and the smallest wrong lane
    pub belongs_turned : belongs_fault h l turned ≡ belongs_fault h l shares
    unfolding belongs_fault
    belongs_turned = rw (same_length, same_symbols h.n shares full)

    pub wrong_turned : wrong_lane z h l turned ≡ wrong_lane y h l shares
    unfolding wrong_lane
    wrong_turned = ap (first_wrong z h l) (symbols_turned h h.n l shares y z) ∙ same_wrong a b h l (symbols_of (width h) shares)

    module _ (r t old new : ℕ) where
      -- Update: the number, the shares and the count
      lane_turned : t < l → lane_of z h.n l t (symbols_of (width h) turned) ≡ lane_of y h.n l t (symbols_of (width h) shares)
      lane_turned inside = ap (lane_of z h.n l t) (symbols_turned h h.n l shares y z) ∙ rearranged_lane a b h.n l (symbols_of (width h) shares) t inside

      same_lane : t < l → lane_bad z h l t turned ≡ lane_bad y h l t shares
      unfolding lane_bad
      same_lane inside = ap (λ (w : List ℕ). not (all_below (size h) w)) (lane_turned inside)

      -- the lane is judged only where it is one
      lane_number : (f : Bool → ℕ) → first_of (when (number_bad l t) 9) (f (lane_bad z h l t turned)) ≡ first_of (when (number_bad l t) 9) (f (lane_bad y h l t shares))
      lane_number f =
          by_test (number_bad l t)
          (λ outside. rw outside)
          (λ inside. ap (λ (x : Bool). first_of (when (number_bad l t) 9) (f x)) (same_lane (number_good l t inside)))

      input_turned : input_fault z h l r t old new turned ≡ input_fault y h l r t old new shares
      unfolding input_fault
      input_turned =
          rw (same_length, lane_number (λ (x : Bool). first_of (when (symbol_bad h old) 11) (first_of (when (symbol_bad h new) 11) (when x 11))))

      pub update_turned : update_fault z h l r t old new turned ≡ update_fault y h l r t old new shares
      unfolding update_fault
      update_turned = go (input_fault y h l r t old new shares) refl
        where
          go : (f : ℕ) → input_fault y h l r t old new shares ≡ f → first_of (input_fault z h l r t old new turned) (stale_fault h (lane_of z h.n l t (symbols_of (width h) turned)) r old) ≡ first_of (input_fault y h l r t old new shares) (stale_fault h (lane_of y h.n l t (symbols_of (width h) shares)) r old)
          go zero e = rw (input_turned, e) (ap (λ (w : List ℕ). stale_fault h w r old) (lane_turned (input_inside y h l r t old new shares e)))
          go (suc f) e = rw (input_turned, e)

      pub updated_turned : t < l → updated_bytes z h l r t old new turned ≡ rearranged_bytes y z h h.n l (updated_bytes y h l r t old new shares)
      unfolding updated_bytes rearranged_bytes
      updated_turned inside =
          ap (bytes_of (width h))
          (ap (updated z h l r t old new) (symbols_bytes (width h) _ (width_some h))
          ∙ same_updated a b h l (symbols_of (width h) shares) r t inside old new
          ∙ ap (rearranged y z h.n l) (sym (symbols_bytes (width h) _ (width_some h))))

      pub altered_turned : t < l → altered_count z h l r t old new turned ≡ altered_count y h l r t old new shares
      unfolding altered_count
      altered_turned inside = rw (symbols_turned h h.n l shares y z) (same_altered a b h l (symbols_of (width h) shares) r t inside old new (symbols_full h h.n l shares full))

  module _ (nodes shares : List ℕ) (full : length shares ≡ h.k * l * width h) where
    -- the listed shares, rearranged
    abbrev listed : List ℕ
    listed = rearranged_bytes y z h h.k l shares

    same_listed : length listed ≡ length shares
    same_listed = length_turned h h.k l shares y z ∙ sym full

    -- their message
    same_read : recovered z h l nodes (symbols_of (width h) listed) ≡ recovered y h l nodes (symbols_of (width h) shares)
    same_read = ap (recovered z h l nodes) (symbols_turned h h.k l shares y z) ∙ same_recovered a b h l nodes (symbols_of (width h) shares)

    -- Recover and Rebuild: the numbers, the message and the share
    pub recover_turned : (out : ℕ) → recover_fault h l nodes listed out ≡ recover_fault h l nodes shares out
    unfolding recover_fault list_fault
    recover_turned out = rw (same_listed, same_symbols h.k shares full)

    pub rebuild_turned : (target out : ℕ) → rebuild_fault h l nodes listed target out ≡ rebuild_fault h l nodes shares target out
    unfolding rebuild_fault list_fault
    rebuild_turned target out = rw (same_listed, same_symbols h.k shares full)

    pub recovered_turned : recovered_bytes z h l nodes listed ≡ recovered_bytes y h l nodes shares
    unfolding recovered_bytes
    recovered_turned = ap (bytes_of (width h)) same_read

    pub rebuilt_turned : (target : ℕ) → rebuilt_bytes z h l nodes listed target ≡ rebuilt_bytes y h l nodes shares target
    unfolding rebuilt_bytes
    rebuilt_turned target = ap (λ (m : List ℕ). bytes_of (width h) (share_of h l m target)) same_read
