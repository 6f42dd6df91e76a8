-- The ends of the range: with k listed nodes the messages are those of Recover, and with all nodes in order those of the words that Correct writes.
use mathlib.Core.Path.{◌≡◌, refl, sym, ap, ◌∙◌}
use mathlib.Core.Bool.{true, true≢false}
use mathlib.Core.List.{List}
use Prim.Native.Nat.{ℕ, ◌-◌, ◌*◌, ◌/◌, ◌≤◌}
use native.Mathlib.Omega.{arith}
use borrow.Author.Tests.{le-leb, leb-true}
use lib.ListN.{length, get_or}
use Rattle.lists.specs.Counting.{differ}
use Rattle.lists.specs.Numbers.{all_below}
use Rattle.lists.specs.Rows.{range}
use Rattle.std.proofs.lemmas.Bool.{and_from}
use Rattle.lists.proofs.Cases.{by_test}
use Rattle.lists.proofs.Differ.{differ_same}
use Rattle.lists.proofs.Numbers.{all_below_lem, all_distinct}
use Rattle.lists.proofs.Places.{Places-range, length_range, map_range}
use Rattle.layout.specs.Layout.{Arrangement, lane_of}
use Rattle.layout.proofs.Lawful.{Lawful, by_row}
use Rattle.layout.proofs.Buffers.{length_lane, lane_symbols, buffer_ext}
use Rattle.generator.specs.declared.Header.{Header}
use Rattle.generator.specs.Records.{size, Sound}
use Rattle.generator.specs.Codewords.{node_of, encoding, is_word}
use Rattle.generator.specs.Claims.{are_nodes, at_nodes}
use Rattle.generator.proofs.Recovery.{some_message, nodes_places}
use Rattle.generator.proofs.Words.{words_encode, encoding_size, encoding_symbols}
use Rattle.blocks.specs.Blocks.{recovered_lane, recovered}
use Rattle.blocks.proofs.Recovered.{lane_recovered}
use Rattle.nearest_word.specs.Nearest.{radius, is_near, has_near, nearest}
use Rattle.nearest_word.proofs.Near.{near_word, near_close, nearest_is, nearest_near}
use Rattle.near_message.specs.Nearest.{listed_radius, is_near_message, has_near_message, near_message}
use Rattle.near_message.specs.Inner.Listed.{ListedSymbols}
use Rattle.near_message.proofs.Messages.{near_message_is, near_message_near}
use Rattle.correct_listed.specs.Blocks.{near_message_at, near_messages}

-- k listed nodes
module _ (h : Header) (s : Sound h) (nodes : List ℕ) (different : are_nodes h nodes ≡ true) where
  many : length nodes ≡ h.k
  many = (nodes_places h nodes different).size

  listed : (ys : List ℕ) → length ys ≡ h.k → all_below (size h) ys ≡ true → ListedSymbols h nodes ys
  listed ys long below =
      let places = nodes_places h nodes different in
      record { low = all_below_lem h.n nodes places.low; different = all_distinct nodes places.distinct; enough = omega (arith, many); long = long ∙ sym many; symbols = below }

  -- in a lane any symbols are those of the recovered message
  pub lane_recovers : (ys : List ℕ) → length ys ≡ h.k → all_below (size h) ys ≡ true → (has_near_message h nodes ys ≡ true) × (near_message h nodes ys ≡ recovered_lane h nodes ys)
  unfolding is_near_message
  lane_recovers ys long below =
      let (ms, is, at) = some_message h s nodes ys different long below in
      let none : differ ys (at_nodes h ms nodes) ≡ 0 = ap (differ ys) at ∙ differ_same ys in
      let found = near_message_is h s nodes ys (listed ys long below) ms is (rw none (le-leb 0 (listed_radius h nodes) (omega arith))) in
      (found.0, found.1 ∙ sym (lane_recovered h s nodes different ys ms is at))

  -- so the messages are Recover's
  pub listed_recovers : {y : Arrangement} → Lawful y → (l : ℕ) (shares : List ℕ) → length shares ≡ h.k * l → all_below (size h) shares ≡ true → near_messages y h nodes l shares ≡ recovered y h l nodes shares
  unfolding near_messages near_message_at recovered
  listed_recovers {y} a l shares long below =
      buffer_ext by_row h.k l _ _
      (λ r t row inside.
      ap (λ (n : ℕ). get_or (near_message h nodes (lane_of y n l t shares)) r 0) many
      ∙ ap (λ (ms : List ℕ). get_or ms r 0) (lane_recovers (lane_of y h.k l t shares) (length_lane y h.k l t shares) (lane_symbols a h.k l (size h) t shares inside long below)).1)

-- all nodes in order
module _ (h : Header) (s : Sound h) (ws : List ℕ) (long : length ws ≡ h.n) (below : all_below (size h) ws ≡ true) where
  abbrev all : List ℕ
  all = range 0 h.n

  all_listed : ListedSymbols h all ws
  all_listed =
      let places = Places-range h.n 0 h.n (omega arith) in
      record { low = all_below_lem h.n all places.low; different = all_distinct all places.distinct; enough = omega (arith, length_range 0 h.n, s.fits); long = long ∙ sym (length_range 0 h.n); symbols = below }

  -- they hold the encoding
  at_all : (ms : List ℕ) → at_nodes h ms all ≡ encoding h ms
  unfolding encoding
  at_all ms = map_range (node_of h ms) 0 h.n

  same_radius : listed_radius h all ≡ radius h
  unfolding listed_radius radius
  same_radius = ap (λ (n : ℕ). (n - h.k) / 2) (length_range 0 h.n)

  -- a message is near where its encoding is
  encoding_near : (ms : List ℕ) → differ ws (encoding h ms) ≤ radius h → is_near_message h all ws ms ≡ true
  unfolding is_near_message
  encoding_near ms close = rw (at_all ms, same_radius) (le-leb (differ ws (encoding h ms)) (radius h) close)

  near_encoding : (ms : List ℕ) → is_near_message h all ws ms ≡ true → differ ws (encoding h ms) ≤ radius h
  unfolding is_near_message
  near_encoding ms near = leb-true (differ ws (encoding h ms)) (radius h) (rw (at_all ms, same_radius) at near)

  -- from the nearest word to the nearest message
  from_word : has_near h ws ≡ true → (has_near_message h all ws ≡ true) × (encoding h (near_message h all ws) ≡ nearest h ws)
  from_word has =
      let near = nearest_near h s ws long has in
      let (ms, is, at) = (words_encode h s (nearest h ws) near.long near.below).0 (near_word h s ws long (nearest h ws) near) in
      let close : differ ws (encoding h ms) ≤ radius h = rw at (near_close h s ws long (nearest h ws) near) in
      let found = near_message_is h s all ws all_listed ms is (encoding_near ms close) in
      (found.0, ap (encoding h) found.1 ∙ at)

  -- and back
  to_word : has_near_message h all ws ≡ true → has_near h ws ≡ true
  unfolding is_near
  to_word has =
      let (is, near) = near_message_near h s all ws all_listed has in
      let ms = near_message h all ws in
      let low = encoding_symbols h s ms is in
      let word : is_word h (encoding h ms) ≡ true = (words_encode h s (encoding h ms) (encoding_size h s ms) low).1 (ms, is, refl) in
      (nearest_is h s ws long (encoding h ms) (record { long = encoding_size h s ms; below = low; passes = and_from _ _ word (le-leb (differ ws (encoding h ms)) (radius h) (near_encoding ms near)) })).0

  -- a lane has a message near enough exactly where it has a word, and its encoding is that word
  pub all_agrees : (has_near_message h all ws ≡ has_near h ws) × (has_near h ws ≡ true → encoding h (near_message h all ws) ≡ nearest h ws)
  all_agrees =
      (by_test (has_near h ws) (λ t. (from_word t).0 ∙ sym t) (λ t. by_test (has_near_message h all ws) (λ e. absurd (true≢false (sym (to_word e) ∙ t))) (λ e. e ∙ sym t)), λ t. (from_word t).1)
