-- The message that listed shares stand for is one, and shares of an encoding give it back.
use mathlib.Core.Path.{◌≡◌, sym, ap, ◌∙◌}
use mathlib.Core.Bool.{true}
use mathlib.Core.List.{List, []}
use Prim.Native.Nat.{ℕ, ◌*◌, ◌<◌}
use native.Mathlib.Decide.{dec_lt}
use lib.ListN.{length, get_or}
use Rattle.lists.specs.Numbers.{all_below}
use Rattle.lists.proofs.Images.{from_self, from_map}
use Rattle.layout.specs.Layout.{Arrangement, row_after_row, lane_of, buffer}
use Rattle.layout.proofs.Lawful.{Lawful, by_row}
use Rattle.layout.proofs.Buffers.{length_lane, length_buffer, lane_buffer, lanes_equal, lane_symbols, buffer_below}
use Rattle.generator.specs.declared.Header.{Header}
use Rattle.generator.specs.Records.{size, Sound}
use Rattle.generator.specs.Codewords.{node_of}
use Rattle.generator.specs.Claims.{is_message, are_nodes, at_nodes}
use Rattle.generator.proofs.Recovery.{some_message, one_message, message_is, message_size, nodes_places}
use Rattle.generator.proofs.Changes.{message_symbol}
use Rattle.blocks.specs.Blocks.{share_at, gathered, MessageFor}

-- a lane of a message buffer is a message
pub lane_message : (h : Header) (l : ℕ) (m : List ℕ) (t : ℕ) → t < l → length m ≡ h.k * l → all_below (size h) m ≡ true → is_message h (lane_of row_after_row h.k l t m) ≡ true
lane_message h l m t inside long below = message_is h (lane_of row_after_row h.k l t m) (length_lane row_after_row h.k l t m) (lane_symbols by_row h.k l (size h) t m inside long below)

module _ {y : Arrangement} (a : Lawful y) (h : Header) (s : Sound h) (l : ℕ) (nodes : List ℕ) (different : are_nodes h nodes ≡ true) where
  -- at most one message buffer has the listed shares' symbols at the listed nodes
  pub one_buffer : (shares m u : List ℕ) → MessageFor y h l nodes shares m → MessageFor y h l nodes shares u → m ≡ u
  one_buffer shares m u p q =
      lanes_equal by_row h.k l m u p.size_is q.size_is
      (λ t inside.
      one_message h s nodes (lane_of row_after_row h.k l t m) (lane_of row_after_row h.k l t u) different
      (lane_message h l m t inside p.size_is p.symbols) (lane_message h l u t inside q.size_is q.symbols)
      (p.lanes t inside ∙ sym (q.lanes t inside)))

  -- the shares of the listed nodes stand for the message that was encoded
  pub gathered_message : (m : List ℕ) → length m ≡ h.k * l → all_below (size h) m ≡ true → MessageFor y h l nodes (gathered y h l nodes m) m
  unfolding gathered share_at
  gathered_message m long below =
      record {
        size_is = long;
        symbols = below;
        lanes = λ t inside.
            sym
            (lane_buffer a h.k l (λ i t. share_at h l m (get_or nodes i 0) t) t inside
            ∙ from_map nodes h.k (nodes_places h nodes different).size (node_of h (lane_of row_after_row h.k l t m)));
      }

  module _ (shares : List ℕ) (long : length shares ≡ h.k * l) (below : all_below (size h) shares ≡ true) where
    -- the message of lane t
    lane_at_lem : (t : ℕ) → t < l → (ms : List ℕ) × (is_message h ms ≡ true) × (at_nodes h ms nodes ≡ lane_of y h.k l t shares)
    lane_at_lem t inside = some_message h s nodes (lane_of y h.k l t shares) different (length_lane y h.k l t shares) (lane_symbols a h.k l (size h) t shares inside long below)

    -- by the test whether there is such a lane
    chosen : (t : ℕ) → Dec (t < l) → List ℕ
    chosen t (yes inside) = (lane_at_lem t inside).0
    chosen t (no outside) = []

    chosen_is : (t : ℕ) (d : Dec (t < l)) → t < l → (is_message h (chosen t d) ≡ true) × (at_nodes h (chosen t d) nodes ≡ lane_of y h.k l t shares)
    unfolding chosen
    chosen_is t (yes inside) low = ((lane_at_lem t inside).1, (lane_at_lem t inside).2)
    chosen_is t (no outside) low = absurd (outside low)

    -- some message buffer has the listed shares' symbols at the listed nodes
    pub some_buffer : (m : List ℕ) × MessageFor y h l nodes shares m
    some_buffer =
        let message : ℕ → List ℕ = λ t. chosen t (dec_lt t l) in
        let m : List ℕ = buffer row_after_row h.k l (λ r t. get_or (message t) r 0) in
        let lane : (t : ℕ) → t < l → lane_of row_after_row h.k l t m ≡ message t = λ t inside.
        lane_buffer by_row h.k l (λ r t. get_or (message t) r 0) t inside
        ∙ from_self (message t) h.k (message_size h (message t) (chosen_is t (dec_lt t l) inside).0)
        in (
          m,
          record {
            size_is = length_buffer row_after_row h.k l (λ r t. get_or (message t) r 0);
            symbols = buffer_below by_row h.k l (size h) (λ r t. get_or (message t) r 0) (λ r t row inside. message_symbol h s (message t) r (chosen_is t (dec_lt t l) inside).0 row);
            lanes = λ t inside. ap (λ (w : List ℕ). at_nodes h w nodes) (lane t inside) ∙ (chosen_is t (dec_lt t l) inside).1;
          },
        )
