-- Additive repairs of one node of a code over the field of 256 elements, and the least bits that any of them moves.
use Rattle.std.specs.Prelude.{◌≡◌, true, false, ◌&&◌, not, List, ℕ, zero, suc, ◌-◌, ◌*◌, ◌^◌, ◌≤◌, ◌<◌, max, eqb}
use Rattle.std.specs.Int.Bits.{bit_xor}
use Rattle.lists.specs.Choice.{pick}
use Rattle.lists.specs.Counting.{count_from}
use Rattle.lists.specs.Numbers.{is_in}
use Rattle.scheme.specs.Sums.{sum}
use Rattle.scheme.specs.Costs.{ceil}
use Rattle.generator.specs.declared.Header.{Header}
use Rattle.generator.specs.Codewords.{node_of}
use Rattle.generator.specs.Claims.{is_message, are_nodes}

-- every node j but target sends sent j x of its symbol x, a number of bits j binary digits
pub record AdditiveRepair (h : Header) (target : ℕ) (bits : ℕ → ℕ) (sent : ℕ → ℕ → ℕ) : Type 0 where
  pub below : (j x : ℕ) → j < h.n → (j ≡ target → ⊥) → x < 256 → sent j x < 2 ^ bits j
  -- each digit is a sum of digits of the symbol: what is sent of a sum is the sum of what is sent
  pub additive : (j x x' : ℕ) → j < h.n → (j ≡ target → ⊥) → x < 256 → x' < 256 → sent j (bit_xor x x') ≡ bit_xor (sent j x) (sent j x')
  -- and what is sent settles the symbol of node target, in whatever way: it is the same for two messages for which every other node sends the same
  pub settles : (ms ms' : List ℕ) → is_message h ms ≡ true → is_message h ms' ≡ true → ((j : ℕ) → j < h.n → (j ≡ target → ⊥) → sent j (node_of h ms j) ≡ sent j (node_of h ms' j)) → node_of h ms target ≡ node_of h ms' target

-- the sum of g j over the numbers j below n but target
unfoldable pub sum_but : ℕ → ℕ → (ℕ → ℕ) → ℕ
sum_but target n g = sum n (λ j. pick (eqb j target) 0 (g j))

-- how many of them send anything
unfoldable pub sending_count : ℕ → ℕ → (ℕ → ℕ) → ℕ
sending_count target n bits = count_from n 0 (λ j. not (eqb j target) && not (eqb (bits j) 0))

-- what a node is worth that sends b bits: 0, 128, 192, 224, 240, 248, 252, 254, 255
unfoldable pub worth : ℕ → ℕ
worth b = 256 - 2 ^ (8 - b)

-- a node with b bits is worth worth b, and further bits add at most 2^(7 − b) each: at least so many bits of `sending` nodes are worth 255·k
unfoldable pub line_bits : ℕ → ℕ → ℕ → ℕ
line_bits b sending k = ceil (255 * k - (worth b - b * 2 ^ (7 - b)) * sending) (2 ^ (7 - b))

-- the greatest of g i for i below `count`
unfoldable pub greatest : ℕ → (ℕ → ℕ) → ℕ
greatest zero g = 0
greatest (suc count) g = max (g count) (greatest count g)

-- no fewer bits of `sending` nodes are worth 255·k: the greatest number that such a line asks for
unfoldable pub least_bits : ℕ → ℕ → ℕ
least_bits sending k = greatest 8 (λ b. line_bits b sending k)

-- k nodes send their symbols, and the others nothing
abbrev pub whole_bits : List ℕ → ℕ → ℕ
whole_bits js j = pick (is_in j js) 8 0

abbrev pub whole_sent : List ℕ → ℕ → ℕ → ℕ
whole_sent js j x = pick (is_in j js) x 0

-- no additive repair of a node moves less
pub record RepairBound (h : Header) : Type 0 where
  -- what is sent is worth 255·k or more
  pub worths : (target : ℕ) (bits : ℕ → ℕ) (sent : ℕ → ℕ → ℕ) → target < h.n → AdditiveRepair h target bits sent → 255 * h.k ≤ sum_but target h.n (λ j. worth (bits j))
  -- each bit is worth at most 128, so at least 255·k / 128 bits are moved
  pub each_bit : (target : ℕ) (bits : ℕ → ℕ) (sent : ℕ → ℕ → ℕ) → target < h.n → AdditiveRepair h target bits sent → 255 * h.k ≤ 128 * sum_but target h.n bits
  -- for k up to 127 these are 2·k bits
  pub twice : (target : ℕ) (bits : ℕ → ℕ) (sent : ℕ → ℕ → ℕ) → target < h.n → AdditiveRepair h target bits sent → h.k ≤ 127 → 2 * h.k ≤ sum_but target h.n bits
  -- the later bits of a node are worth less: where at most so many nodes send, they send at least so many bits
  pub moved : (target : ℕ) (bits : ℕ → ℕ) (sent : ℕ → ℕ → ℕ) → target < h.n → AdditiveRepair h target bits sent → (sending : ℕ) → sending_count target h.n bits ≤ sending → least_bits sending h.k ≤ sum_but target h.n bits
  pub moved_all : (target : ℕ) (bits : ℕ → ℕ) (sent : ℕ → ℕ → ℕ) → target < h.n → AdditiveRepair h target bits sent → least_bits (h.n - 1) h.k ≤ sum_but target h.n bits
  -- any k other nodes that send their symbols are an additive repair, and are worth just 255·k
  pub whole : (target : ℕ) (js : List ℕ) → target < h.n → are_nodes h js ≡ true → is_in target js ≡ false → AdditiveRepair h target (whole_bits js) (whole_sent js)
  pub whole_worth : (target : ℕ) (js : List ℕ) → target < h.n → are_nodes h js ≡ true → is_in target js ≡ false → sum_but target h.n (λ j. worth (whole_bits js j)) ≡ 255 * h.k
