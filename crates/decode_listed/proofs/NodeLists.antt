-- Lists of nodes: the test whether one stands in a list, symbols put one after the other, and what padded arrays hold.
use mathlib.Core.Path.{◌≡◌, refl, sym, ap, ap₂, ◌∙◌}
use mathlib.Core.Bool.{true, ◌||◌}
use mathlib.Core.List.{List, [], ◌∷◌, map}
use Prim.Native.Nat.{ℕ, ◌+◌, ◌-◌, ◌≤◌, ◌<◌}
use native.Mathlib.Decide.{dec_lt}
use native.Mathlib.Omega.{arith}
use borrow.Author.Tests.{eqb-true, eq-eqb}
use lib.Dec.{eqb}
use lib.ListN.{length, get_or, set, take, drop, length-set, drop_of_length-le}
use lib.Seq.{ext_get_or}
use Rattle.std.specs.List.{list_any}
use Rattle.lists.specs.Numbers.{all_below, is_in}
use Rattle.lists.specs.Padded.{padded, zeros}
use Rattle.lists.proofs.All.{All-imp, map_agree}
use Rattle.lists.proofs.Cases.{same_test}
use Rattle.lists.proofs.Fill.{length_zeros}
use Rattle.lists.proofs.Front.{drop_next}
use Rattle.lists.proofs.Numbers.{at_below, below_at, below_all, below_cons}
use Rattle.lists.proofs.Padding.{length_padded, get_or_padded, get_or_zeros, padded_past}
use Rattle.lists.proofs.Rows.{part_rest}
use Rattle.generator.specs.declared.Header.{Header}
use Rattle.generator.specs.Records.{Sound}
use Rattle.generator.specs.Codewords.{encoding}
use Rattle.generator.specs.Claims.{at_nodes}
use Rattle.generator.proofs.Messages.{node_at}
use Rattle.near_message.specs.Inner.Listed.{put_at, placed_lane, ListedSymbols}
use Rattle.near_message.proofs.Messages.{unlisted_many}
use Rattle.decode.proofs.Removing.{set_padded}

-- a list contains what stands in it
pub contains_is_in : (x : ℕ) (l : List ℕ) → list_any (λ y. eqb y x) l ≡ is_in x l
unfolding is_in
contains_is_in x [] = refl
contains_is_in x (y ∷ l) = ap₂ ◌||◌ (same_test (eqb y x) (eqb x y) (λ t. eq-eqb x y (sym (eqb-true y x t))) (λ t. eq-eqb y x (sym (eqb-true x y t)))) (contains_is_in x l)

-- one symbol put more
pub put_next : (js ys ws : List ℕ) (i : ℕ) → i < length js → i < length ys → put_at (drop i js) (drop i ys) ws ≡ put_at (drop (i + 1) js) (drop (i + 1) ys) (set ws (get_or js i 0) (get_or ys i 0))
unfolding put_at
put_next js ys ws i a b = rw (drop_next js i 0 a, drop_next ys i 0 b)

pub put_end : (js ys ws : List ℕ) (i : ℕ) → length js ≤ i → put_at (drop i js) (drop i ys) ws ≡ ws
unfolding put_at
put_end js ys ws i b = ap (λ (l : List ℕ). put_at l (drop i ys) ws) (drop_of_length-le js b)

-- zeros after the lane play no part
put_padded : (n : ℕ) (js ys ws : List ℕ) → all_below (length ws) js ≡ true → put_at js ys (padded n ws) ≡ padded n (put_at js ys ws)
unfolding put_at
put_padded n [] ys ws b = refl
put_padded n (j ∷ js) [] ws b = refl
put_padded n (j ∷ js) (y ∷ ys) ws b =
    let (low, rest) = below_cons (length ws) j js b in
    ap (put_at js ys) (set_padded n ws j y low) ∙ put_padded n js ys (set ws j y) (rw (length-set ws j y) rest)

-- zeros are zeros with zeros after them
zeros_padded : (m n : ℕ) → n ≤ m → zeros m ≡ padded m (zeros n)
zeros_padded m n b =
    ext_get_or 0 (zeros m) (padded m (zeros n)) (length_zeros m ∙ sym (length_padded m (zeros n) (omega (arith, length_zeros n))))
    (λ j c. get_or_zeros m j ∙ sym (go j (dec_lt j n)))
  where
    go : (j : ℕ) → Dec (j < n) → get_or (padded m (zeros n)) j 0 ≡ 0
    go j (yes l) = get_or_padded m (zeros n) j (omega (arith, length_zeros n)) ∙ get_or_zeros n j
    go j (no l) = padded_past m (zeros n) j (omega (arith, length_zeros n))

-- the rest of an array of 255, as it is lent
pub rest_is : (s : List ℕ) (e : ℕ) → length s ≡ 255 → take (255 - e) (drop e s) ≡ drop e s
rest_is s e long = ap (λ (n : ℕ). take (n - e) (drop e s)) (sym long) ∙ part_rest e s

module _ (h : Header) (s : Sound h) (nodes ys : List ℕ) (listed : ListedSymbols h nodes ys) where
  pub few_nodes : length nodes ≤ 255
  few_nodes = omega (arith, unlisted_many h s nodes ys listed, s.byte)

  pub nodes_bytes : all_below 255 nodes ≡ true
  nodes_bytes = at_below 255 nodes (λ i b. omega (arith, below_at h.n nodes listed.low i b, s.byte))

  -- the symbols put at their nodes, in an array
  pub placed_is : put_at nodes ys (zeros 255) ≡ padded 255 (placed_lane h nodes ys)
  unfolding placed_lane
  placed_is = ap (put_at nodes ys) (zeros_padded 255 h.n s.byte) ∙ put_padded 255 nodes ys (zeros h.n) (rw (length_zeros h.n) listed.low)

  -- what an array that holds an encoding holds at the nodes
  pub picked : (ms word array : List ℕ) → array ≡ padded 255 word → length word ≡ h.n → encoding h ms ≡ word → map (λ j. get_or array j 0) nodes ≡ at_nodes h ms nodes
  picked ms word array is long e =
      map_agree (λ j. get_or array j 0) _ nodes
      (All-imp (λ j. j < h.n) _
      (λ j b. ap (λ (l : List ℕ). get_or l j 0) is ∙ get_or_padded 255 word j (omega (arith, long)) ∙ ap (λ (l : List ℕ). get_or l j 0) (sym e) ∙ node_at h ms j b)
      nodes (below_all h.n nodes listed.low))
