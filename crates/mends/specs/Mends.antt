-- The single changes that make a lane a word of the code, by definition.
use Rattle.std.specs.Prelude.{◌≡◌, ◌↔◌, Bool, true, not, List, [], map, ℕ, ◌+◌, ◌-◌, ◌≤◌, ◌<◌, ltb, length, get_or, set}
use Rattle.lists.specs.Choice.{pick}
use Rattle.lists.specs.Counting.{passing_from}
use Rattle.lists.specs.Numbers.{is_in}
use Rattle.lists.specs.Rows.{range}
use Rattle.lists.specs.Search.{first_false}
use Rattle.generator.specs.declared.Header.{Header}
use Rattle.generator.specs.Records.{size}
use Rattle.generator.specs.Codewords.{is_word}
use Rattle.generator.specs.Claims.{Codeword}

-- the least symbol at node j with which the lane is a word, or the field's size
unfoldable pub mend_at : Header → List ℕ → ℕ → ℕ
mend_at h ws j = first_false (size h) 0 (λ x. not (is_word h (set ws j x)))

-- there is one
unfoldable pub can_mend : Header → List ℕ → ℕ → Bool
can_mend h ws j = ltb (mend_at h ws j) (size h)

-- the nodes whose single change makes the lane a word, lowest first; none where it is one
unfoldable pub mend_nodes : Header → List ℕ → List ℕ
mend_nodes h ws = pick (is_word h ws) [] (passing_from h.n 0 (can_mend h ws))

-- the new symbol of each
unfoldable pub mend_symbols : Header → List ℕ → List ℕ
mend_symbols h ws = map (mend_at h ws) (mend_nodes h ws)

-- the lane with another symbol at node j is a word of the code
abbrev pub MendedBy : Header → List ℕ → ℕ → ℕ → Type 0
MendedBy h ws j x = (j < h.n) × (x < size h) × Codeword h (set ws j x)

-- what holds of the list of a lane
pub record Mends (h : Header) (ws : List ℕ) : Type 0 where
  -- the nodes and the symbols are as many
  pub paired : length (mend_symbols h ws) ≡ length (mend_nodes h ws)
  -- with symbol i at node i of the list the lane is a word, and the node holds another symbol
  pub makes : (i : ℕ) → i < length (mend_nodes h ws) → MendedBy h ws (get_or (mend_nodes h ws) i 0) (get_or (mend_symbols h ws) i 0) × (get_or (mend_symbols h ws) i 0 ≡ get_or ws (get_or (mend_nodes h ws) i 0) 0 → ⊥)
  -- a word has none
  pub word : Codeword h ws → mend_nodes h ws ≡ []
  -- of a lane that is no word, each node and symbol that make it one are an entry
  pub all : (Codeword h ws → ⊥) → (j x : ℕ) → MendedBy h ws j x → (i : ℕ) × (i < length (mend_nodes h ws)) × (get_or (mend_nodes h ws) i 0 ≡ j) × (get_or (mend_symbols h ws) i 0 ≡ x)
  -- so a node is listed exactly if some symbol there makes the lane a word ..
  pub listed : (Codeword h ws → ⊥) → (j : ℕ) → (is_in j (mend_nodes h ws) ≡ true) ↔ ((x : ℕ) × MendedBy h ws j x)
  -- .. and there is at most one such symbol at each node
  pub one : (Codeword h ws → ⊥) → (j x x' : ℕ) → MendedBy h ws j x → MendedBy h ws j x' → x ≡ x'
  -- the nodes rise
  pub rises : (i i' : ℕ) → i < i' → i' < length (mend_nodes h ws) → get_or (mend_nodes h ws) i 0 < get_or (mend_nodes h ws) i' 0
  -- with two check sums or more there is at most one entry in all
  pub single : 2 ≤ h.n - h.k → length (mend_nodes h ws) ≤ 1
  -- with one check sum every node has one
  pub every : h.k + 1 ≡ h.n → (Codeword h ws → ⊥) → mend_nodes h ws ≡ range 0 h.n
  -- with none every lane is a word
  pub always : h.k ≡ h.n → Codeword h ws
