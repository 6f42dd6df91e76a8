-- What holds of every accepted plan.
use Rattle.std.specs.Prelude.{Ok, Err}
use Rattle.generator.specs.Answers.{Answer}
use Rattle.std.specs.Prelude.{◌≡◌, ◌↔◌, ◌⊎◌, Bool, true, false, ◌&&◌, not, List, map, eqb, ltb, length, get_or, set}
use Prim.Native.Nat.{ℕ, ◌+◌, ◌*◌, ◌%◌, ◌<◌, Fin}
use Rattle.lists.specs.Counting.{count_from, differ}
use Rattle.lists.specs.Numbers.{all_below, distinct}
use Rattle.field.specs.Symbols.{Symbol, numbers}
use Rattle.scheme.specs.Messages.{Message, symbols}
use Rattle.scheme.specs.Schemes.{Scheme}
use Rattle.scheme.specs.Sums.{sum}
use Rattle.scheme.specs.Costs.{Tight, CostsAtLeast}
use Rattle.generator.specs.declared.Header.{Header}
use Rattle.generator.specs.Records.{size, distance, low_reads, high_reads}
use Rattle.generator.specs.Shifts.{shifts, negative, firsts}
use Rattle.generator.specs.Generator.{entry, base_word}
use Rattle.generator.specs.Codewords.{node_of, encoding, values_of, is_word}
use Rattle.generator.specs.Messages.{message_of}

-- k symbols of the field
unfoldable pub is_message : Header → List ℕ → Bool
is_message h ms = eqb (length ms) h.k && all_below (size h) ms

-- k different nodes
unfoldable pub are_nodes : Header → List ℕ → Bool
are_nodes h js = eqb (length js) h.k && (all_below h.n js && distinct js)

-- what the listed nodes hold for a message
abbrev pub at_nodes : Header → List ℕ → List ℕ → List ℕ
at_nodes h ms js = map (node_of h ms) js

-- how many symbols have an entry at node j that is not zero
unfoldable pub reads : Header → ℕ → ℕ
reads h j = count_from h.k 0 (λ r. not (eqb (entry h r j) 0))

-- a word of the code: the values of a polynomial of degree below k
abbrev pub Codeword : Header → List ℕ → Type 0
Codeword h ws = (cs : List ℕ) × (length cs ≡ h.k) × (all_below (size h) cs ≡ true) × (values_of h cs ≡ ws)

-- the code of the plan: recovery, words, weights
pub record Ours (h : Header) : Type 0 where
  -- any k symbols on k nodes are of exactly one message
  pub some_message : (js ys : List ℕ) → are_nodes h js ≡ true → length ys ≡ h.k → all_below (size h) ys ≡ true → (ms : List ℕ) × (is_message h ms ≡ true) × (at_nodes h ms js ≡ ys)
  pub one_message : (js ms ms' : List ℕ) → are_nodes h js ≡ true → is_message h ms ≡ true → is_message h ms' ≡ true → at_nodes h ms js ≡ at_nodes h ms' js → ms ≡ ms'
  -- words are the values of polynomials of degree below k, and the encodings of messages
  pub words_poly : (ws : List ℕ) → length ws ≡ h.n → all_below (size h) ws ≡ true → (is_word h ws ≡ true) ↔ Codeword h ws
  pub words_encode : (ws : List ℕ) → length ws ≡ h.n → all_below (size h) ws ≡ true → (is_word h ws ≡ true) ↔ ((ms : List ℕ) × (is_message h ms ≡ true) × (encoding h ms ≡ ws))
  -- the encoding of every message consists of symbols and is a word of the code
  pub encodes_symbols : (ms : List ℕ) → is_message h ms ≡ true → all_below (size h) (encoding h ms) ≡ true
  pub encodes_word : (ms : List ℕ) → is_message h ms ≡ true → Codeword h (encoding h ms)
  -- a message is that of its encoding, and a word is the encoding of its message
  pub message_back : (ms : List ℕ) → is_message h ms ≡ true → message_of h (encoding h ms) ≡ ms
  pub word_message : (ws : List ℕ) → length ws ≡ h.n → all_below (size h) ws ≡ true → is_word h ws ≡ true → (is_message h (message_of h ws) ≡ true) × (encoding h (message_of h ws) ≡ ws)
  -- an entry is not zero exactly where (j + shift) modulo n lies below d
  pub row_weight : (r j : ℕ) → r < h.k → j < h.n → eqb (entry h r j) 0 ≡ not (ltb ((j + get_or (shifts h) r 0) % h.n) (distance h))
  -- each change of one symbol alters exactly d nodes
  pub alters : (ms : List ℕ) (r x : ℕ) → is_message h ms ≡ true → r < h.k → x < size h → (x ≡ get_or ms r 0 → ⊥) → differ (encoding h ms) (encoding h (set ms r x)) ≡ distance h
  -- each node depends on k·d / n symbols, rounded down or up; the two are equal exactly if n divides k·d
  pub depends : (j : ℕ) → j < h.n → (reads h j ≡ low_reads h) ⊎ (reads h j ≡ high_reads h)
  pub whole : (low_reads h ≡ high_reads h) ↔ (h.k * distance h % h.n ≡ 0)
  -- these counts sum to k·d, and some node has the upper one
  pub total : sum h.n (reads h) ≡ h.k * distance h
  pub upper_node : (j : ℕ) × (j < h.n) × (reads h j ≡ high_reads h)
  -- a node depends on a symbol exactly where the entry is not zero
  pub depends_means : (r j : ℕ) → r < h.k → j < h.n → (eqb (entry h r j) 0 ≡ false) ↔ ((ms : List ℕ) × (x : ℕ) × (is_message h ms ≡ true) × (x < size h) × (eqb (node_of h ms j) (node_of h (set ms r x) j) ≡ false))
  -- the shifts are k different numbers below n, the first of them 0
  pub shifts_many : length (shifts h) ≡ h.k
  pub shifts_below : all_below h.n (shifts h) ≡ true
  pub shifts_different : distinct (shifts h) ≡ true
  pub first_shift : get_or (shifts h) 0 0 ≡ 0
  -- row r begins at its first node, (−shift) modulo n: an entry is not zero exactly at the d nodes from there on, going round
  pub firsts_negative : (r : ℕ) → r < h.k → get_or (firsts h) r 0 ≡ negative h.n (get_or (shifts h) r 0)
  pub begins : (r j : ℕ) → r < h.k → j < h.n → (eqb (entry h r j) 0 ≡ false) ↔ ((i : ℕ) × (i < distance h) × ((get_or (firsts h) r 0 + i) % h.n ≡ j))
  -- row r at j is the base word at (j + shift) modulo n
  pub rows_base : (r j : ℕ) → r < h.k → j < h.n → entry h r j ≡ get_or (base_word h) ((j + get_or (shifts h) r 0) % h.n) 0

-- the scheme of the plan: it takes the field's symbols and has node j hold the sum of symbol r times entry (r, j)
pub record OurScheme (h : Header) : Type 0 where
  pub scheme : Scheme h.k h.n (Symbol (size h)) (λ j. ℕ)
  pub holds_is : (m : Message (Symbol (size h)) h.k) (j : Fin h.n) → scheme.holds m j ≡ node_of h (numbers (size h) (symbols h.k m)) j.0
  -- each change alters exactly d nodes, each node depends on exactly k·d / n symbols, rounded down or up
  pub tight : Tight scheme
  -- every scheme of numbers for the same k and n costs at least as much
  pub least : (other : Scheme h.k h.n ℕ (λ j. ℕ)) → CostsAtLeast other scheme

-- what is promised of a record that was read
pub record Accepted (h : Header) : Type 0 where
  pub code : Ours h
  pub scheme : OurScheme h

unfoldable pub Promised : Answer Header → Type 0
Promised (Ok h) = Accepted h
Promised (Err f) = Unit {0}
