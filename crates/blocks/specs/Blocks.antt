-- Shares of a block, an update of one lane, wrong lanes and recovered messages, over symbols and in every arrangement y of shares. A message stands row after row.
use Rattle.std.specs.Prelude.{◌≡◌, true, List, ℕ, ◌*◌, ◌<◌, eqb, length, get_or}
use Rattle.lists.specs.AllLists.{first_list}
use Rattle.lists.specs.Counting.{differ}
use Rattle.lists.specs.Numbers.{all_below}
use Rattle.lists.specs.Rows.{from}
use Rattle.lists.specs.Search.{first_false}
use Rattle.layout.specs.Layout.{Arrangement, row_after_row, held, lane_of, buffer, with_lane}
use Rattle.field.specs.Fields.{add, sub, mul}
use Rattle.generator.specs.declared.Header.{Header}
use Rattle.generator.specs.Records.{modulus_of, size}
use Rattle.generator.specs.Generator.{entry}
use Rattle.generator.specs.Codewords.{node_of, is_word}
use Rattle.generator.specs.Claims.{at_nodes}

-- what node j holds in lane t, for a message buffer m of l lanes
unfoldable pub share_at : Header → ℕ → List ℕ → ℕ → ℕ → ℕ
share_at h l m j t = node_of h (lane_of row_after_row h.k l t m) j

-- node j's share: what it holds in each lane
unfoldable pub share_of : Header → ℕ → List ℕ → ℕ → List ℕ
share_of h l m j = from (share_at h l m j) 0 l

-- the shares of all nodes
unfoldable pub shares_of : Arrangement → Header → ℕ → List ℕ → List ℕ
shares_of y h l m = buffer y h.n l (share_at h l m)

-- the shares of listed nodes, in list order
unfoldable pub gathered : Arrangement → Header → ℕ → List ℕ → List ℕ → List ℕ
gathered y h l nodes m = buffer y h.k l (λ i t. share_at h l m (get_or nodes i 0) t)

-- what node j holds in lane t after x times row r of the generator is added there
unfoldable pub added_at : Arrangement → Header → ℕ → ℕ → ℕ → ℕ → List ℕ → ℕ → ℕ
added_at y h l r t x s j = add (modulus_of h) (held y h.n l s j t) (mul (modulus_of h) x (entry h r j))

-- x times row r added to lane t
unfoldable pub row_added : Arrangement → Header → ℕ → ℕ → ℕ → ℕ → List ℕ → List ℕ
row_added y h l r t x s = with_lane y h.n l t (added_at y h l r t x s) s

-- x times row r added to a word by itself
unfoldable pub word_added : Header → ℕ → ℕ → List ℕ → List ℕ
word_added h r x us = from (λ j. add (modulus_of h) (get_or us j 0) (mul (modulus_of h) x (entry h r j))) 0 h.n

-- (new − old) times row r added to lane t
unfoldable pub updated : Arrangement → Header → ℕ → ℕ → ℕ → ℕ → ℕ → List ℕ → List ℕ
updated y h l r t old new s = row_added y h l r t (sub (modulus_of h) new old) s

-- the smallest lane that is no word of the code, or l where all are
unfoldable pub first_wrong : Arrangement → Header → ℕ → List ℕ → ℕ
first_wrong y h l s = first_false l 0 (λ t. is_word h (lane_of y h.n l t s))

-- the message of one lane of listed symbols: of all lists of k symbols the first whose encoding has them at the listed nodes
unfoldable pub recovered_lane : Header → List ℕ → List ℕ → List ℕ
recovered_lane h nodes ys = first_list (size h) h.k (λ ms. eqb (differ ys (at_nodes h ms nodes)) 0)

-- the message of listed shares: that of each lane, as a message buffer
unfoldable pub recovered : Arrangement → Header → ℕ → List ℕ → List ℕ → List ℕ
recovered y h l nodes s = buffer row_after_row h.k l (λ r t. get_or (recovered_lane h nodes (lane_of y h.k l t s)) r 0)

-- the law of that message: m holds, in each lane, the message whose encoding has the listed shares' symbols at the listed nodes
pub record MessageFor (y : Arrangement) (h : Header) (l : ℕ) (nodes shares m : List ℕ) : Type 0 where
  pub size_is : length m ≡ h.k * l
  pub symbols : all_below (size h) m ≡ true
  pub lanes : (t : ℕ) → t < l → at_nodes h (lane_of row_after_row h.k l t m) nodes ≡ lane_of y h.k l t shares
