-- The recovered message as it is defined, by a search in each lane: it is the one that the law names.
use mathlib.Core.Path.{◌≡◌, sym, ap, ◌∙◌}
use mathlib.Core.Bool.{Bool, true}
use mathlib.Core.List.{List}
use Prim.Native.Nat.{ℕ, ◌*◌}
use borrow.Author.Tests.{eqb-true, eq-eqb}
use lib.Dec.{eqb}
use lib.ListN.{length, get_or, length-map}
use Rattle.lists.specs.Counting.{differ}
use Rattle.lists.specs.Numbers.{all_below}
use Rattle.lists.proofs.AllLists.{any_list_lem, first_list_lem}
use Rattle.lists.proofs.Differ.{differ_same, same_lists}
use Rattle.layout.specs.Layout.{Arrangement, row_after_row, held, lane_of}
use Rattle.layout.specs.Width.{symbols_of}
use Rattle.layout.proofs.Lawful.{Lawful, by_row}
use Rattle.layout.proofs.Buffers.{buffer_ext, buffer_held, get_or_lane}
use Rattle.generator.specs.declared.Header.{Header}
use Rattle.generator.specs.Records.{size, width, Sound}
use Rattle.generator.specs.Codewords.{node_of}
use Rattle.generator.specs.Claims.{is_message, are_nodes, at_nodes}
use Rattle.generator.proofs.Recovery.{one_message, message_size, message_below, message_is}
use Rattle.refusals.specs.Accepted.{ListedShares}
use Rattle.blocks.specs.Blocks.{recovered_lane, recovered, MessageFor}
use Rattle.blocks.proofs.Messages.{lane_message, some_buffer}

module _ (h : Header) (s : Sound h) (nodes : List ℕ) (different : are_nodes h nodes ≡ true) where
  -- the search in a lane finds the message that has its symbols at the listed nodes
  pub lane_recovered : (ys ms : List ℕ) → is_message h ms ≡ true → at_nodes h ms nodes ≡ ys → recovered_lane h nodes ys ≡ ms
  unfolding recovered_lane
  lane_recovered ys ms m at =
      let test : List ℕ → Bool = λ us. eqb (differ ys (at_nodes h us nodes)) 0 in
      let p =
      first_list_lem (size h) h.k test
      (any_list_lem (size h) h.k test ms
      (record { long = message_size h ms m; below = message_below h ms m; passes = eq-eqb _ 0 (ap (differ ys) at ∙ differ_same ys) })) in
      let us = recovered_lane h nodes ys in
      let long : length ys ≡ length (at_nodes h us nodes) = ap length (sym at) ∙ length-map nodes (node_of h ms) ∙ sym (length-map nodes (node_of h us)) in
      one_message h s nodes us ms different (message_is h us p.long p.below) m (sym (same_lists ys (at_nodes h us nodes) long (eqb-true _ 0 p.passes)) ∙ sym at)

  module _ {y : Arrangement} (a : Lawful y) (l : ℕ) (shares : List ℕ) where
    -- whatever message has the listed shares' symbols at the listed nodes, it is the recovered one
    pub recovered_only : (m : List ℕ) → MessageFor y h l nodes shares m → recovered y h l nodes shares ≡ m
    unfolding recovered
    recovered_only m is =
        buffer_ext by_row h.k l _ (held row_after_row h.k l m)
        (λ r t row inside.
        ap (λ (w : List ℕ). get_or w r 0) (lane_recovered (lane_of y h.k l t shares) (lane_of row_after_row h.k l t m) (lane_message h l m t inside is.size_is is.symbols) (is.lanes t inside))
        ∙ get_or_lane row_after_row h.k l t m r row)
        ∙ buffer_held by_row h.k l m is.size_is

    -- and the recovered one is such a message
    pub recovered_message : length shares ≡ h.k * l → all_below (size h) shares ≡ true → MessageFor y h l nodes shares (recovered y h l nodes shares)
    recovered_message long below =
        let (m, is) = some_buffer a h s l nodes different shares long below in
        rw (recovered_only m is) is

module _ {y : Arrangement} (a : Lawful y) {h : Header} {l : ℕ} {nodes shares : List ℕ} (listed : ListedShares h l nodes shares) where
  -- of listed shares that no number turns away
  pub listed_message : MessageFor y h l nodes (symbols_of (width h) shares) (recovered y h l nodes (symbols_of (width h) shares))
  listed_message = let rows = listed.buffer.symbol_rows in recovered_message h rows.sound nodes listed.different a l (symbols_of (width h) shares) rows.long rows.symbols
