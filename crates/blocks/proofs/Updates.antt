-- An update of a lane that encodes a message: the lane, the other lanes, and how many symbols differ.
use mathlib.Core.Path.{◌≡◌, sym, ap, ap₂, ◌∙◌}
use mathlib.Core.Bool.{true, not}
use mathlib.Core.List.{List, ◌++◌}
use Prim.Native.Nat.{ℕ, ◌+◌, ◌-◌, ◌*◌, ◌≤◌, ◌<◌}
use native.Mathlib.Nat.{zero-add, mul_comm, add-sub_cancel_left}
use native.Mathlib.Omega.{arith}
use lib.Dec.{eqb}
use lib.ListN.{length, get_or, take, drop, set}
use Rattle.lists.specs.Counting.{count_from, differ}
use Rattle.lists.proofs.Count.{count_ext}
use Rattle.lists.specs.Rows.{from}
use Rattle.lists.proofs.Rows.{from_ext, get_or_from, length_from, part_length, row_inside}
use Rattle.layout.specs.Layout.{Arrangement, lane_after_lane, held, lane_of}
use Rattle.layout.proofs.Lawful.{Lawful, by_lane}
use Rattle.layout.proofs.Runs.{lane_part, with_lane_part}
use Rattle.layout.proofs.Buffers.{get_or_lane}
use Rattle.layout.proofs.OneLane.{length_with_lane, lane_changed, lane_kept, differ_lane}
use Rattle.field.specs.Fields.{add, sub, mul}
use Rattle.generator.specs.declared.Header.{Header}
use Rattle.generator.specs.Records.{modulus_of, size, Sound}
use Rattle.generator.specs.Generator.{entry}
use Rattle.generator.specs.Codewords.{node_of, encoding}
use Rattle.generator.specs.Claims.{is_message}
use Rattle.generator.proofs.Changes.{node_change}
use Rattle.generator.proofs.Messages.{node_at}
use Rattle.blocks.specs.Blocks.{added_at, row_added, word_added, updated}

module _ {y : Arrangement} (a : Lawful y) (h : Header) (l r t x : ℕ) (shares : List ℕ) where
  -- as many symbols differ as nodes hold another symbol in the lane
  pub differ_added : t < l → length shares ≡ h.n * l → differ shares (row_added y h l r t x shares) ≡ count_from h.n 0 (λ j. not (eqb (held y h.n l shares j t) (added_at y h l r t x shares j)))
  unfolding row_added
  differ_added = differ_lane a h.n l t (added_at y h l r t x shares) shares

module _ (h : Header) (l r t x : ℕ) (shares : List ℕ) (long : length shares ≡ h.n * l) (inside : t < l) where
  -- the lane as a part of the buffer
  abbrev part : List ℕ
  part = take (t * h.n + h.n - t * h.n) (drop (t * h.n) shares)

  -- what the part becomes by itself is what the lane becomes
  part_added : word_added h r x part ≡ from (added_at lane_after_lane h l r t x shares) 0 h.n
  unfolding word_added added_at
  part_added =
      from_ext _ (added_at lane_after_lane h l r t x shares) 0 h.n
      (λ j above below.
      let held_is : get_or part j 0 ≡ held lane_after_lane h.n l shares j t =
      ap (λ (w : List ℕ). get_or w j 0) (lane_part h.n l shares long t inside) ∙ get_or_lane lane_after_lane h.n l t shares j (omega arith) in
      ap (λ (b : ℕ). add (modulus_of h) b (mul (modulus_of h) x (entry h r j))) held_is)

  -- a row added through the lane's part is added to the lane
  pub added_part : take (t * h.n) shares ++ (word_added h r x part ++ drop (t * h.n + h.n - t * h.n) (drop (t * h.n) shares)) ≡ row_added lane_after_lane h l r t x shares
  unfolding row_added
  added_part = rw (part_added, add-sub_cancel_left) (with_lane_part h.n l t (added_at lane_after_lane h l r t x shares) shares long inside)

  -- and as many symbols differ in the buffer as in the part
  pub differ_part : differ part (word_added h r x part) ≡ differ shares (row_added lane_after_lane h l r t x shares)
  unfolding differ
  differ_part =
      let place : t * h.n + h.n ≤ length shares = rw (long, mul_comm h.n l) (row_inside l t h.n inside) in
      ap (λ (f : ℕ). count_from f 0 (λ j. not (eqb (get_or part j 0) (get_or (word_added h r x part) j 0)))) (part_length (t * h.n) h.n shares place)
      ∙ count_ext h.n 0 _ _
      (λ j above below.
      ap not
      (ap₂ eqb (ap (λ (w : List ℕ). get_or w j 0) (lane_part h.n l shares long t inside) ∙ get_or_lane lane_after_lane h.n l t shares j (omega arith))
      (ap (λ (w : List ℕ). get_or w j 0) part_added ∙ rw zero-add at (get_or_from (added_at lane_after_lane h l r t x shares) 0 h.n j 0 (omega arith)))))
      ∙ sym (differ_added by_lane h l r t x shares inside long)

module _ {y : Arrangement} (a : Lawful y) (h : Header) (l r t old new : ℕ) (shares : List ℕ) where
  -- an update gives a buffer of n·l symbols
  pub length_updated : length (updated y h l r t old new shares) ≡ h.n * l
  unfolding updated row_added
  length_updated = length_with_lane a h.n l t (added_at y h l r t (sub (modulus_of h) new old) shares) shares

  -- no other lane is altered
  pub updated_others : (q : ℕ) → q < l → (q ≡ t → ⊥) → lane_of y h.n l q (updated y h l r t old new shares) ≡ lane_of y h.n l q shares
  unfolding updated row_added
  updated_others = lane_kept a h.n l t (added_at y h l r t (sub (modulus_of h) new old) shares) shares

module _ {y : Arrangement} (a : Lawful y) (h : Header) (s : Sound h) (ms shares : List ℕ) (l r t new : ℕ) (m : is_message h ms ≡ true) (row : r < h.k) (inside : t < l) (low : new < size h) (long : length shares ≡ h.n * l) (encodes : lane_of y h.n l t shares ≡ encoding h ms) where
  -- what a node of the lane holds before ..
  held_before : (j : ℕ) → j < h.n → held y h.n l shares j t ≡ node_of h ms j
  held_before j node = sym (get_or_lane y h.n l t shares j node) ∙ ap (λ (w : List ℕ). get_or w j 0) encodes ∙ node_at h ms j node

  -- .. and after
  held_after : (j : ℕ) → j < h.n → added_at y h l r t (sub (modulus_of h) new (get_or ms r 0)) shares j ≡ node_of h (set ms r new) j
  unfolding added_at
  held_after j node =
      ap (λ (b : ℕ). add (modulus_of h) b (mul (modulus_of h) (sub (modulus_of h) new (get_or ms r 0)) (entry h r j))) (held_before j node)
      ∙ sym (node_change h s ms r new m row low j)

  -- the lane encodes the new message
  pub updated_encodes : lane_of y h.n l t (updated y h l r t (get_or ms r 0) new shares) ≡ encoding h (set ms r new)
  unfolding updated row_added encoding
  updated_encodes =
      lane_changed a h.n l t (added_at y h l r t (sub (modulus_of h) new (get_or ms r 0)) shares) shares inside
      ∙ from_ext _ (node_of h (set ms r new)) 0 h.n (λ j above below. held_after j (omega arith))

  -- as many symbols differ as nodes of the two encodings do
  pub updated_count : differ shares (updated y h l r t (get_or ms r 0) new shares) ≡ differ (encoding h ms) (encoding h (set ms r new))
  unfolding updated differ encoding
  updated_count =
      differ_added a h l r t (sub (modulus_of h) new (get_or ms r 0)) shares inside long
      ∙ count_ext h.n 0 _ _ (λ j above below. ap not (ap₂ eqb (held_before j (omega arith) ∙ sym (node_at h ms j (omega arith))) (held_after j (omega arith) ∙ sym (node_at h (set ms r new) j (omega arith)))))
      ∙ ap (λ (f : ℕ). count_from f 0 (λ i. not (eqb (get_or (encoding h ms) i 0) (get_or (encoding h (set ms r new)) i 0)))) (sym (length_from (node_of h ms) 0 h.n))
