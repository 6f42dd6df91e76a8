-- How far a change reaches: of what one of k listed nodes holds, and of symbols of a message.
use Rattle.std.specs.Prelude.{◌≡◌, true, false, List, ℕ, ◌*◌, ◌≤◌, ◌<◌, min, get_or, set}
use Rattle.lists.specs.Counting.{differ}
use Rattle.lists.specs.Numbers.{is_in}
use Rattle.generator.specs.declared.Header.{Header}
use Rattle.generator.specs.Records.{distance}
use Rattle.generator.specs.Codewords.{node_of, encoding}
use Rattle.generator.specs.Claims.{is_message, are_nodes, at_nodes}

pub record Reaches (h : Header) : Type 0 where
  -- one symbol of those that k listed nodes hold for a message is replaced by another: the message that holds these has another symbol at every node outside the list
  pub elsewhere : (js ms ms' : List ℕ) (i x j : ℕ) → are_nodes h js ≡ true → is_message h ms ≡ true → is_message h ms' ≡ true → i < h.k → (x ≡ get_or (at_nodes h ms js) i 0 → ⊥) → at_nodes h ms' js ≡ set (at_nodes h ms js) i x → j < h.n → is_in j js ≡ false → node_of h ms' j ≡ node_of h ms j → ⊥
  -- one symbol of a message changes, or more: the encoding changes at n − k + 1 nodes or more
  pub least : (ms ms' : List ℕ) → is_message h ms ≡ true → is_message h ms' ≡ true → 1 ≤ differ ms ms' → distance h ≤ differ (encoding h ms) (encoding h ms')
  -- and at no more than n nodes, or n − k + 1 for each changed symbol
  pub most : (ms ms' : List ℕ) → is_message h ms ≡ true → is_message h ms' ≡ true → differ (encoding h ms) (encoding h ms') ≤ min h.n (differ ms ms' * distance h)
