-- A message is near to the symbols of listed nodes where its encoding is near to a lane without the other nodes, so there is one at most.
use mathlib.Core.Path.{◌≡◌, refl, sym, ap, ap₂, ◌∙◌}
use mathlib.Core.Bool.{Bool, true, ◌&&◌, not, not-not}
use mathlib.Core.List.{List, [], ◌∷◌}
use Prim.Native.Nat.{ℕ, zero, suc, ◌+◌, ◌-◌, ◌/◌, ◌≤◌, ◌<◌}
use native.Mathlib.Omega.{arith}
use lib.Dec.{eqb}
use lib.ListN.{length, get_or, set, length-set, length-map}
use lib.Seq.{get_or-set_same, get_or-set_other}
use Rattle.lists.specs.Counting.{count_from, passing_from, differ}
use Rattle.lists.specs.Numbers.{all_below, is_in}
use Rattle.lists.proofs.All.{All, Distinct, Distinct-at, All-imp}
use Rattle.std.proofs.lemmas.List.{get_or-map}
use Rattle.lists.specs.Padded.{zeros}
use Rattle.lists.proofs.AllLists.{Passes, any_list_lem, first_list_lem}
use Rattle.lists.proofs.Along.{count_along}
use Rattle.std.proofs.lemmas.Bool.{and_parts}
use Rattle.lists.proofs.Count.{count_ext, count_not}
use Rattle.lists.proofs.Chosen.{count_most}
use Rattle.lists.proofs.Differ.{unlike}
use Rattle.lists.proofs.Numbers.{below_at, distinct_all, is_in_place, place_is_in, all_below_lem, at_below, below_cons, below_set}
use Rattle.lists.proofs.Fill.{length_zeros}
use Rattle.lists.proofs.Padding.{below_zeros}
use Rattle.lists.proofs.Passing.{length_passing, passing_within}
use Rattle.field.proofs.FieldOf.{size_pos}
use Rattle.generator.specs.declared.Header.{Header}
use Rattle.generator.specs.Records.{size, Sound}
use Rattle.generator.specs.Codewords.{node_of, encoding, is_word}
use Rattle.generator.specs.Claims.{is_message, at_nodes}
use Rattle.generator.proofs.Recovery.{message_is, message_size, message_below}
use Rattle.generator.proofs.Words.{words_encode, encoding_size, encoding_symbols}
use Rattle.generator.proofs.Messages.{node_at, encoding_injective}
use Rattle.near_message.specs.Inner.Lost.{lost_radius, differ_but, is_near_but}
use Rattle.near_message.specs.Nearest.{listed_radius, is_near_message, has_near_message, near_message}
use Rattle.near_message.specs.Inner.Listed.{unlisted, put_at, placed_lane, ListedSymbols}
use Rattle.near_message.proofs.CountIn.{count_in, is_in_passing}
use Rattle.near_message.proofs.NearBut.{NearBut, but_one}

-- a lane that holds these symbols at these nodes, and others anywhere else
pub record Placed (h : Header) (nodes ys ws : List ℕ) : Type 0 where
  pub long : length ws ≡ h.n
  pub below : all_below (size h) ws ≡ true
  pub holds : (i : ℕ) → i < length nodes → get_or ws (get_or nodes i 0) 0 ≡ get_or ys i 0

-- symbols put at nodes: one after the other
pub length_put : (js ys ws : List ℕ) → length (put_at js ys ws) ≡ length ws
unfolding put_at
length_put [] ys ws = refl
length_put (j ∷ js) [] ws = refl
length_put (j ∷ js) (y ∷ ys) ws = length_put js ys (set ws j y) ∙ length-set ws j y

put_other : (js ys ws : List ℕ) (j : ℕ) → All (λ i. j ≡ i → ⊥) js → get_or (put_at js ys ws) j 0 ≡ get_or ws j 0
unfolding put_at
put_other [] ys ws j a = refl
put_other (i ∷ js) [] ws j a = refl
put_other (i ∷ js) (y ∷ ys) ws j a = put_other js ys (set ws i y) j a.1 ∙ get_or-set_other ws i j y 0 a.0

put_at_lem : (js ys ws : List ℕ) → Distinct js → all_below (length ws) js ≡ true → length ys ≡ length js → (i : ℕ) → i < length js → get_or (put_at js ys ws) (get_or js i 0) 0 ≡ get_or ys i 0
unfolding put_at
put_at_lem [] ys ws d b l i h = absurd (omega arith)
put_at_lem (j ∷ js) [] ws d b l i h = absurd (omega arith)
put_at_lem (j ∷ js) (y ∷ ys) ws d b l zero h = put_other js ys (set ws j y) j d.0 ∙ get_or-set_same ws j y 0 (below_cons (length ws) j js b).0
put_at_lem (j ∷ js) (y ∷ ys) ws d b l (suc i) h =
    let (low, rest) = below_cons (length ws) j js b in
    put_at_lem js ys (set ws j y) d.1 (rw (length-set ws j y) rest) (omega arith) i (omega arith)

pub put_below : (q : ℕ) (js ys ws : List ℕ) → all_below q ys ≡ true → all_below q ws ≡ true → all_below q (put_at js ys ws) ≡ true
unfolding put_at
put_below q [] ys ws a b = b
put_below q (j ∷ js) [] ws a b = b
put_below q (j ∷ js) (y ∷ ys) ws a b =
    let (low, rest) = below_cons q y ys a in
    put_below q js ys (set ws j y) rest (below_set q ws j y low b)

module _ (h : Header) (s : Sound h) (nodes ys : List ℕ) (listed : ListedSymbols h nodes ys) where
  abbrev lost : List ℕ
  lost = unlisted h nodes

  -- the nodes that are listed and those that are not make n
  pub unlisted_many : length lost + length nodes ≡ h.n
  unfolding unlisted
  unlisted_many =
      let some = count_most h.n (λ j. is_in j nodes) nodes listed.low listed.different (λ i t. t) in
      omega (arith, length_passing h.n 0 (λ j. not (is_in j nodes)), count_not h.n 0 (λ j. is_in j nodes), some, most)
    where
      most : count_from h.n 0 (λ j. is_in j nodes) ≤ length nodes
      most = count_in h.n nodes

  pub unlisted_low : all_below h.n lost ≡ true
  unfolding unlisted
  unlisted_low = let l = passing_from h.n 0 (λ j. not (is_in j nodes)) in all_below_lem h.n l (All-imp (λ j. (0 ≤ j) × (j < 0 + h.n)) (λ j. j < h.n) (λ j b. omega arith) l (passing_within h.n 0 (λ j. not (is_in j nodes))))

  pub unlisted_room : length lost + h.k ≤ h.n
  unlisted_room = omega (arith, unlisted_many, listed.enough)

  -- a node is lost where it is not listed
  pub unlisted_is : (j : ℕ) → j < h.n → is_in j lost ≡ not (is_in j nodes)
  unfolding unlisted
  unlisted_is j b = is_in_passing h.n (λ j. not (is_in j nodes)) j b

  pub same_radius : lost_radius h lost ≡ listed_radius h nodes
  unfolding lost_radius listed_radius
  same_radius = let e : h.n - h.k - length lost ≡ length nodes - h.k = omega (arith, unlisted_many) in ap (λ x. x / 2) e

  module _ (ws : List ℕ) (placed : Placed h nodes ys ws) where
    -- a message differs from the listed symbols as often as its encoding from the lane
    pub same_distance : (ms : List ℕ) → differ_but lost ws (encoding h ms) ≡ differ ys (at_nodes h ms nodes)
    unfolding differ_but differ
    same_distance ms =
        let E = encoding h ms in
        let p : ℕ → Bool = λ j. is_in j nodes && unlike ws E j in
        ap (λ n. count_from n 0 (λ j. not (is_in j lost) && unlike ws E j)) placed.long
        ∙ count_ext h.n 0 (λ j. not (is_in j lost) && unlike ws E j) p (λ j l b. ap (λ (t : Bool). t && unlike ws E j) (ap not (unlisted_is j (omega arith)) ∙ not-not (is_in j nodes)))
        ∙ count_along h.n (length nodes) (λ i. get_or nodes i 0) p
        (record { low = λ i b. below_at h.n nodes listed.low i b; differ = λ i j b c e. Distinct-at 0 nodes (distinct_all nodes listed.different) i j b c e })
        (λ x b t. is_in_place x nodes (and_parts (is_in x nodes) (unlike ws E x) t).0)
        ∙ count_ext (length nodes) 0 (λ i. p (get_or nodes i 0)) (unlike ys (at_nodes h ms nodes))
        (λ i l b.
        let c : i < length nodes = omega arith in
        ap (λ (t : Bool). t && unlike ws E (get_or nodes i 0)) (place_is_in nodes i c)
        ∙ ap₂ (λ (x z : ℕ). not (eqb x z)) (placed.holds i c) (node_at h ms (get_or nodes i 0) (below_at h.n nodes listed.low i c) ∙ sym (get_or-map (node_of h ms) nodes i 0 0 c)))
        ∙ ap (λ n. count_from n 0 (unlike ys (at_nodes h ms nodes))) (sym listed.long)

    pub same_near : (ms : List ℕ) → is_message h ms ≡ true → is_near_but h lost ws (encoding h ms) ≡ is_near_message h nodes ys ms
    unfolding is_near_but is_near_message
    same_near ms m =
        let word : is_word h (encoding h ms) ≡ true = (words_encode h s (encoding h ms) (encoding_size h s ms) (encoding_symbols h s ms m)).1 (ms, m, refl) in
        rw (word, same_distance ms, same_radius)

    -- a message that near has an encoding that near
    near_encoding : (ms : List ℕ) → Passes (size h) h.k (is_near_message h nodes ys) ms → NearBut h s lost unlisted_room ws (encoding h ms)
    near_encoding ms p =
        let m = message_is h ms p.long p.below in
        record { long = encoding_size h s ms; below = encoding_symbols h s ms m; passes = same_near ms m ∙ p.passes }

    -- at most one message is that near
    placed_one : (ms us : List ℕ) → Passes (size h) h.k (is_near_message h nodes ys) ms → Passes (size h) h.k (is_near_message h nodes ys) us → ms ≡ us
    placed_one ms us p q =
        encoding_injective h s ms us (message_is h ms p.long p.below) (message_is h us q.long q.below)
        (but_one h s lost unlisted_room ws placed.long (encoding h ms) (encoding h us) (near_encoding ms p) (near_encoding us q))

  -- the lane of the listed symbols
  pub lane_placed : Placed h nodes ys (placed_lane h nodes ys)
  unfolding placed_lane
  lane_placed =
      record {
        long = length_put nodes ys (zeros h.n) ∙ length_zeros h.n;
        below = put_below (size h) nodes ys (zeros h.n) listed.symbols (below_zeros (size h) h.n (size_pos _ s.field));
        holds = λ i b. put_at_lem nodes ys (zeros h.n) (distinct_all nodes listed.different) (rw (length_zeros h.n) listed.low) listed.long i b;
      }

  -- at most one message differs from the listed symbols at no more than (s − k)/2 of them
  pub one_near : (ms us : List ℕ) → is_message h ms ≡ true → is_message h us ≡ true → is_near_message h nodes ys ms ≡ true → is_near_message h nodes ys us ≡ true → ms ≡ us
  one_near ms us m u p q =
      placed_one (placed_lane h nodes ys) lane_placed ms us
      (record { long = message_size h ms m; below = message_below h ms m; passes = p })
      (record { long = message_size h us u; below = message_below h us u; passes = q })

  -- it is the one that is searched for
  pub near_message_is : (ms : List ℕ) → is_message h ms ≡ true → is_near_message h nodes ys ms ≡ true → (has_near_message h nodes ys ≡ true) × (near_message h nodes ys ≡ ms)
  unfolding has_near_message near_message
  near_message_is ms m p =
      let own : Passes (size h) h.k (is_near_message h nodes ys) ms = record { long = message_size h ms m; below = message_below h ms m; passes = p } in
      let t = any_list_lem (size h) h.k (is_near_message h nodes ys) ms own in
      (t, placed_one (placed_lane h nodes ys) lane_placed (near_message h nodes ys) ms (first_list_lem (size h) h.k (is_near_message h nodes ys) t) own)

  -- and where the search finds one, it is a message that near
  pub near_message_near : has_near_message h nodes ys ≡ true → (is_message h (near_message h nodes ys) ≡ true) × (is_near_message h nodes ys (near_message h nodes ys) ≡ true)
  unfolding has_near_message near_message
  near_message_near t =
      let p = first_list_lem (size h) h.k (is_near_message h nodes ys) t in
      (message_is h (near_message h nodes ys) p.long p.below, p.passes)

  -- the symbols that the nodes hold for it
  pub near_symbols_below : has_near_message h nodes ys ≡ true → all_below (size h) (at_nodes h (near_message h nodes ys) nodes) ≡ true
  near_symbols_below t =
      let m = near_message h nodes ys in
      let low = encoding_symbols h s m (near_message_near t).0 in
      at_below (size h) (at_nodes h m nodes)
      (λ i b.
      let c : i < length nodes = omega (arith, length-map nodes (node_of h m)) in
      let node = below_at h.n nodes listed.low i c in
      rw (get_or-map (node_of h m) nodes i 0 0 c, ← node_at h m (get_or nodes i 0) node) (below_at (size h) (encoding h m) low (get_or nodes i 0) (omega (arith, encoding_size h s m))))
