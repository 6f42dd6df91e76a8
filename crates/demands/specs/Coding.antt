-- Demand 2, sentence by sentence, over the definitions that the calls promise.
use Rattle.std.specs.Prelude.{◌≡◌, ◌↔◌, true, List, ℕ, ◌*◌, ◌<◌, length, get_or}
use Rattle.lists.specs.Numbers.{all_below}
use Rattle.layout.specs.Layout.{row_after_row, lane_of, share_layout}
use Rattle.generator.specs.declared.Header.{Header}
use Rattle.generator.specs.Records.{size}
use Rattle.generator.specs.Codewords.{encoding}
use Rattle.generator.specs.Claims.{are_nodes, Codeword}
use Rattle.blocks.specs.Blocks.{share_of, shares_of, gathered, first_wrong, recovered, MessageFor}

-- rows of symbols in l lanes
pub record Symbols (h : Header) (rows l : ℕ) (s : List ℕ) : Type 0 where
  pub long : length s ≡ rows * l
  pub symbols : all_below (size h) s ≡ true

-- for the header of an accepted record
pub record CodeDemands (h : Header) : Type 0 where
  -- encoding gives, in each lane, the encoding that the generator assigns to the message ..
  pub encodes : (l : ℕ) (m : List ℕ) (t : ℕ) → t < l → lane_of share_layout h.n l t (shares_of share_layout h l m) ≡ encoding h (lane_of row_after_row h.k l t m)
  -- .. which is a word of the code
  pub word : (l : ℕ) (m : List ℕ) → Symbols h h.k l m → (t : ℕ) → t < l → Codeword h (lane_of share_layout h.n l t (shares_of share_layout h l m))
  -- from any k nodes, recovery returns that message: whatever is recovered from their shares is it
  pub returns : (l : ℕ) (nodes m out : List ℕ) → are_nodes h nodes ≡ true → Symbols h h.k l m → MessageFor share_layout h l nodes (gathered share_layout h l nodes m) out → out ≡ m
  -- any k symbols on k nodes, in each lane, are of a message, and of one only
  pub some : (l : ℕ) (nodes shares : List ℕ) → are_nodes h nodes ≡ true → Symbols h h.k l shares → (m : List ℕ) × MessageFor share_layout h l nodes shares m
  pub one : (l : ℕ) (nodes shares m m' : List ℕ) → are_nodes h nodes ≡ true → MessageFor share_layout h l nodes shares m → MessageFor share_layout h l nodes shares m' → m ≡ m'
  -- which is the one that Recover writes
  pub recovers : (l : ℕ) (nodes shares : List ℕ) → are_nodes h nodes ≡ true → Symbols h h.k l shares → MessageFor share_layout h l nodes shares (recovered share_layout h l nodes shares)
  -- rebuilding gives the node's share of that encoding: its symbol in each lane
  pub rebuilds : (l : ℕ) (m : List ℕ) (target t : ℕ) → target < h.n → t < l → get_or (share_of h l m target) t 0 ≡ get_or (encoding h (lane_of row_after_row h.k l t m)) target 0
  -- the code test passes just the words of the code ..
  pub passes : (l : ℕ) (shares : List ℕ) → Symbols h h.n l shares → (first_wrong share_layout h l shares ≡ l) ↔ ((t : ℕ) → t < l → Codeword h (lane_of share_layout h.n l t shares))
  -- .. and else names the smallest lane that is none
  pub names : (l : ℕ) (shares : List ℕ) → Symbols h h.n l shares → first_wrong share_layout h l shares < l → (Codeword h (lane_of share_layout h.n l (first_wrong share_layout h l shares) shares) → ⊥) × ((t : ℕ) → t < first_wrong share_layout h l shares → Codeword h (lane_of share_layout h.n l t shares))
