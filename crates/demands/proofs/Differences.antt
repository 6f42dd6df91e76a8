-- What each node adds leads from the shares of a message to those of the message with another row.
use Rattle.std.specs.Prelude.{Ok}
use mathlib.Core.Path.{◌≡◌, sym, ap, ap₂, ◌∙◌}
use mathlib.Core.List.{List, [], ◌∷◌}
use mathlib.Core.Logic.{by_cases}
use Prim.Native.Nat.{ℕ, ◌+◌, ◌*◌, ◌≤◌, ◌<◌}
use native.Mathlib.Decide.{ℕ_discrete}
use native.Mathlib.Nat.{zero-add, one-mul, mul_assoc}
use native.Mathlib.Omega.{arith}
use borrow.Author.Tests.{eqb-true}
use lib.Dec.{eqb}
use lib.ListN.{length, get_or, take, drop, set, length-drop, length-set}
use lib.Seq.{get_or-set_same, get_or-set_other, get_or-drop, get_or-take, ext_get_or, length-take-le}
use Rattle.lists.specs.Rows.{from}
use Rattle.lists.proofs.Cases.{by_test}
use Rattle.lists.proofs.Numbers.{below_at}
use Rattle.lists.proofs.Rows.{from_ext, length_from, get_or_from, row_inside}
use Rattle.layout.specs.Layout.{row_after_row, lane_of, buffer}
use Rattle.layout.specs.Width.{bytes_of}
use Rattle.layout.proofs.Buffers.{length_buffer, length_lane, get_or_lane, held_buffer}
use Rattle.layout.proofs.LaneParts.{bytes_part}
use Rattle.layout.proofs.Lawful.{by_row}
use Rattle.layout.proofs.Places.{held_by_row}
use Rattle.layout.proofs.Widths.{symbols_bytes}
use Rattle.field.specs.Fields.{add, sub, mul}
use Rattle.field.proofs.Arithmetic.{mul-zero}
use Rattle.field.proofs.BothKinds.{arithmetic}
use Rattle.generator.specs.declared.Header.{Header}
use Rattle.generator.specs.Records.{header_of, modulus_of, size, width, Sound}
use Rattle.generator.specs.Generator.{entry}
use Rattle.generator.specs.Codewords.{node_of}
use Rattle.generator.proofs.Changes.{node_change}
use Rattle.generator.proofs.Claims.{ours}
use Rattle.generator.proofs.Widths.{width_some}
use Rattle.generator.proofs.Answered.{done_is}
use Rattle.refusals.specs.Accepted.{SymbolBuffer}
use Rattle.refusals.specs.Faults.{fault_of}
use Rattle.refusals.proofs.OnRecord.{none_met}
use Rattle.blocks.specs.Blocks.{share_at, share_of}
use Rattle.blocks.proofs.Messages.{lane_message}
use Rattle.differences.specs.Differences.{difference_at, difference_bytes, added_symbols, added_bytes}
use Rattle.differences.specs.Promise.{differences_fault, add_fault, DifferencesSays}
use Rattle.differences.proofs.Accepts.{differences_accepts}
use Rattle.demands.specs.Calls.{read}
use Rattle.demands.specs.Differences.{stretch_of, RowChanged, RowChanges}
use Rattle.demands.specs.RoundTrips.{cut_of}
use Rattle.demands.proofs.RoundTrips.{Encoded, encoded, cut_share}

-- a row of a buffer of rows is a stretch of it
module _ (rows l : ℕ) (f : ℕ → ℕ → ℕ) where
  row_stretch : (j : ℕ) → j < rows → take l (drop (j * l) (buffer row_after_row rows l f)) ≡ from (f j) 0 l
  row_stretch j row =
      let s = buffer row_after_row rows l f in
      let inside : j * l + l ≤ length s = rw (length_buffer row_after_row rows l f) (row_inside rows j l row) in
      let long : length (take l (drop (j * l) s)) ≡ l = length-take-le l (drop (j * l) s) (simp length-drop (omega arith)) in
      ext_get_or 0 _ _ (long ∙ sym (length_from (f j) 0 l))
      (λ t below.
      let lane : t < l = omega (arith, long) in
      let there : get_or (take l (drop (j * l) s)) t 0 ≡ get_or s (j * l + t) 0 = rw (get_or-take, get_or-drop) in
      there ∙ sym (held_by_row rows l s j t) ∙ held_buffer by_row rows l f j t row lane ∙ sym (rw zero-add at (get_or_from (f j) 0 l t 0 lane)))

-- what is known of a call of `differences` that was done
record Told (h : Header) (l r : ℕ) (old new s : List ℕ) : Type 0 where
  sound : Sound h
  old_row : SymbolBuffer h 1 l old
  new_row : SymbolBuffer h 1 l new
  row : r < h.k
  written : s ≡ bytes_of (width h) (buffer row_after_row h.n l (difference_at h r (read h old) (read h new)))

told : (rec : List ℕ) (l r : ℕ) (old new room s : List ℕ) → DifferencesSays rec l r old new room s (Ok tt) → Told (header_of rec) l r old new s
unfolding difference_bytes
told rec l r old new room s says =
    let none = done_is (fault_of rec (λ h. differences_fault h l r old new (length room))) _ says.promise.answered in
    let (sound, own) = none_met rec (λ h. differences_fault h l r old new (length room)) none in
    let accepted = differences_accepts (header_of rec) sound l r old new (length room) own in
    record { sound = sound; old_row = accepted.old_row; new_row = accepted.new_row; row = accepted.row; written = rw none at says.promise.written }

module _ {h : Header} {l r : ℕ} {old new s : List ℕ} (d : Told h l r old new s) (j : ℕ) (node : j < h.n) where
  -- what node j adds
  abbrev added : ℕ → ℕ
  added = difference_at h r (read h old) (read h new) j

  stretch_symbols : read h (stretch_of h l j s) ≡ from added 0 l
  stretch_symbols =
      let B = buffer row_after_row h.n l (difference_at h r (read h old) (read h new)) in
      ap (λ (x : List ℕ). read h (stretch_of h l j x)) d.written
      ∙ ap (λ (x : ℕ). read h (take (l * width h) (drop x (bytes_of (width h) B)))) (sym (mul_assoc j l (width h)))
      ∙ ap (read h) (bytes_part (width h) (j * l) l B)
      ∙ symbols_bytes (width h) _ (width_some h)
      ∙ row_stretch h.n l (difference_at h r (read h old) (read h new)) j node

  -- a node whose entry is zero has zeros to add
  zeros_told : entry h r j ≡ 0 → (t : ℕ) → t < l → get_or (read h (stretch_of h l j s)) t 0 ≡ 0
  unfolding difference_at
  zeros_told none t lane =
      let laws = arithmetic (modulus_of h) d.sound.field in
      let rows = d.old_row.symbol_rows in
      let news = d.new_row.symbol_rows in
      let x = sub (modulus_of h) (get_or (read h new) t 0) (get_or (read h old) t 0) in
      let low : x < size h =
      laws.sub_below (get_or (read h new) t 0) (get_or (read h old) t 0) (below_at (size h) (read h new) news.symbols t (omega (arith, news.long, one-mul l)))
      (below_at (size h) (read h old) rows.symbols t (omega (arith, rows.long, one-mul l))) in
      ap (λ (u : List ℕ). get_or u t 0) stretch_symbols
      ∙ (rw zero-add at (get_or_from added 0 l t 0 lane))
      ∙ ap (mul (modulus_of h) x) none
      ∙ mul-zero laws x low

  module _ {message changed shares shares' : List ℕ} (e : Encoded h l message shares) (e' : Encoded h l changed shares') (c : RowChanged h l r old new message changed) where
    -- lane t of both messages
    abbrev before : ℕ → List ℕ
    before t = lane_of row_after_row h.k l t (read h message)

    lane_changed : (t : ℕ) → t < l → lane_of row_after_row h.k l t (read h changed) ≡ set (before t) r (get_or (read h new) t 0)
    lane_changed t lane =
        let x = get_or (read h new) t 0 in
        ext_get_or 0 _ _ (length_lane row_after_row h.k l t (read h changed) ∙ sym (length-set (before t) r x ∙ length_lane row_after_row h.k l t (read h message)))
        (λ i below.
        let row : i < h.k = omega (arith, length_lane row_after_row h.k l t (read h changed)) in
        get_or_lane row_after_row h.k l t (read h changed) i row
        ∙ held_by_row h.k l (read h changed) i t
        ∙ by_cases (ℕ_discrete i r)
        (λ same. rw same (c.after t lane ∙ sym (get_or-set_same (before t) r x 0 (omega (arith, length_lane row_after_row h.k l t (read h message), d.row)))))
        (λ other. c.others i t row lane other ∙ sym (get_or-set_other (before t) r i x 0 other ∙ get_or_lane row_after_row h.k l t (read h message) i row ∙ held_by_row h.k l (read h message) i t)))

    -- what node j holds of the changed message
    node_added : (t : ℕ) → t < l → add (modulus_of h) (share_at h l (read h message) j t) (added t) ≡ share_at h l (read h changed) j t
    unfolding share_at difference_at
    node_added t lane =
        let rows = e.buffer_is.symbol_rows in
        let news = d.new_row.symbol_rows in
        let x = get_or (read h new) t 0 in
        let low : x < size h = below_at (size h) (read h new) news.symbols t (omega (arith, news.long, one-mul l)) in
        let was : get_or (read h old) t 0 ≡ get_or (before t) r 0 =
        sym (get_or_lane row_after_row h.k l t (read h message) r d.row ∙ held_by_row h.k l (read h message) r t ∙ c.before t lane) in
        ap (λ (o : ℕ). add (modulus_of h) (node_of h (before t) j) (mul (modulus_of h) (sub (modulus_of h) x o) (entry h r j))) was
        ∙ sym (node_change h d.sound (before t) r x (lane_message h l (read h message) t lane rows.long rows.symbols) d.row low j)
        ∙ ap (λ (w : List ℕ). node_of h w j) (sym (lane_changed t lane))

    -- its share with its stretch added
    share_added : added_bytes h l (stretch_of h l j s) (cut_of h l (j ∷ []) shares) ≡ cut_of h l (j ∷ []) shares'
    unfolding added_bytes added_symbols share_of
    share_added =
        let held_before : read h (cut_of h l (j ∷ []) shares) ≡ from (share_at h l (read h message) j) 0 l = ap (read h) (cut_share e j node) ∙ symbols_bytes (width h) _ (width_some h) in
        ap (bytes_of (width h))
        (from_ext _ (share_at h l (read h changed) j) 0 l
        (λ t least most.
        let lane : t < l = omega arith in
        ap₂ (add (modulus_of h))
        (ap (λ (u : List ℕ). get_or u t 0) held_before ∙ rw zero-add at (get_or_from (share_at h l (read h message) j) 0 l t 0 lane))
        (ap (λ (u : List ℕ). get_or u t 0) stretch_symbols ∙ rw zero-add at (get_or_from added 0 l t 0 lane))
        ∙ node_added t lane))
        ∙ sym (cut_share e' j node)

pub row_changes : RowChanges
row_changes =
    record {
      adds = λ rec l r old new message changed out shares again shares' room s c says later tells j node share done.
          let none = done_is (fault_of rec (λ h. add_fault h l (stretch_of (header_of rec) l j s) (cut_of (header_of rec) l (j ∷ []) shares))) _ done.promise.answered in
          rw none at done.promise.written
          ∙ share_added (told rec l r old new room s tells) j node (encoded rec l message out shares says) (encoded rec l changed again shares' later) c;
      outside = λ rec l r old new room s tells j node apart t lane.
          let h = header_of rec in
          let d = told rec l r old new room s tells in
          zeros_told d j node
          (by_test (eqb (entry h r j) 0)
          (λ same. eqb-true (entry h r j) 0 same)
          (λ other. let (x, low, place) = ((ours h d.sound).begins r j d.row node).0 other in absurd (apart x low place)))
          t lane;
    }
