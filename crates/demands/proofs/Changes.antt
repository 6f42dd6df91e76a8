-- How far a change reaches, of every accepted record.
use mathlib.Core.Path.{◌≡◌, refl, sym, ap, ap₂, ◌∙◌}
use mathlib.Core.Bool.{Bool, true, false, not}
use mathlib.Core.List.{List, [], ◌∷◌}
use Prim.Native.Nat.{ℕ, zero, suc, ◌+◌, ◌-◌, ◌*◌, ◌≤◌, ◌<◌, min}
use native.Mathlib.Nat.{zero-add, zero-mul, one-mul, add-mul, le-min, le_refl, le_of_eq}
use native.Mathlib.Decide.{ℕ_discrete, dec_le}
use native.Mathlib.Omega.{arith}
use lib.Dec.{eqb}
use lib.ListN.{length, get_or, set, length-set, length-map}
use lib.Seq.{get_or-set_same, get_or-set_other, set-get_or, set-set, ext_get_or}
use borrow.Author.Tests.{eqb-true, eqb-false, eq-eqb, not-false}
use Rattle.lists.specs.Choice.{when}
use Rattle.lists.specs.Counting.{count_from, differ}
use Rattle.lists.specs.Numbers.{all_below, is_in, distinct}
use Rattle.lists.specs.Rows.{from}
use Rattle.lists.proofs.All.{Distinct, Distinct-at, Distinct-of}
use Rattle.std.proofs.lemmas.Bool.{and_from, or_parts}
use Rattle.lists.proofs.Cases.{by_test}
use Rattle.lists.proofs.Chosen.{Chosen, choose}
use Rattle.lists.proofs.Count.{count_ext, count_none, count_not, count_either, count_below}
use Rattle.lists.proofs.Differ.{differ_same}
use Rattle.lists.proofs.Numbers.{all_below_lem, below_set, all_distinct}
use Rattle.lists.proofs.Rows.{length_from, get_or_from}
use Rattle.generator.specs.declared.Header.{Header}
use Rattle.generator.specs.Records.{header_of, record_fault, distance, Sound}
use Rattle.generator.specs.Codewords.{node_of, encoding}
use Rattle.generator.specs.Claims.{is_message, are_nodes, at_nodes}
use Rattle.demands.specs.Changes.{Reaches}
use Rattle.generator.proofs.Accepts.{faultless_sound}
use Rattle.generator.proofs.Recovery.{message_size, nodes_places, one_message}
use Rattle.generator.proofs.Changes.{map_set, set_message, message_symbol, alters}
use Rattle.generator.proofs.SchemeOf.{map_is_in}

-- what is not in a list stands at none of its places
not_in : (t : ℕ) (js : List ℕ) → is_in t js ≡ false → (i : ℕ) → i < length js → get_or js i 0 ≡ t → ⊥
unfolding is_in
not_in t [] e i l q = omega arith
not_in t (j ∷ js) e zero l q = eqb-false t j (or_parts (eqb t j) (is_in t js) e).0 (sym q)
not_in t (j ∷ js) e (suc i) l q = not_in t js (or_parts (eqb t j) (is_in t js) e).1 i (omega arith) q

-- different numbers stay so where one is replaced by a number that is not among them
distinct_set : (js : List ℕ) (i t : ℕ) → Distinct js → is_in t js ≡ false → Distinct (set js i t)
distinct_set js i t d f = Distinct-of 0 (set js i t) (λ a b la lb e. go a b (rw (length-set js i t) at la) (rw (length-set js i t) at lb) e (ℕ_discrete a i) (ℕ_discrete b i))
  where
    go : (a b : ℕ) → a < length js → b < length js → get_or (set js i t) a 0 ≡ get_or (set js i t) b 0 → Dec (a ≡ i) → Dec (b ≡ i) → a ≡ b
    go a b la lb e (yes p) (yes q) = p ∙ sym q
    go a b la lb e (yes p) (no q) = absurd (not_in t js f b lb (sym (get_or-set_other js i b t 0 q) ∙ sym e ∙ ap (λ c. get_or (set js i t) c 0) p ∙ get_or-set_same js i t 0 (omega arith)))
    go a b la lb e (no p) (yes q) = absurd (not_in t js f a la (sym (get_or-set_other js i a t 0 p) ∙ e ∙ ap (λ c. get_or (set js i t) c 0) q ∙ get_or-set_same js i t 0 (omega arith)))
    go a b la lb e (no p) (no q) = Distinct-at 0 js d a b la lb (sym (get_or-set_other js i a t 0 p) ∙ e ∙ get_or-set_other js i b t 0 q)

-- the first i symbols of us, and then those of ms
unfoldable mixed : List ℕ → List ℕ → ℕ → List ℕ
mixed ms us zero = ms
mixed ms us (suc i) = set (mixed ms us i) i (get_or us i 0)

length_mixed : (ms us : List ℕ) (i : ℕ) → length (mixed ms us i) ≡ length ms
unfolding mixed
length_mixed ms us zero = refl
length_mixed ms us (suc i) = length-set (mixed ms us i) i (get_or us i 0) ∙ length_mixed ms us i

mixed_new : (ms us : List ℕ) (i r : ℕ) → r < i → i ≤ length ms → get_or (mixed ms us i) r 0 ≡ get_or us r 0
unfolding mixed
mixed_new ms us zero r l h = absurd (omega arith)
mixed_new ms us (suc i) r l h = go (ℕ_discrete r i) (λ e. mixed_new ms us i r (omega arith) (omega arith))
  where
    go : Dec (r ≡ i) → ((r ≡ i → ⊥) → get_or (mixed ms us i) r 0 ≡ get_or us r 0) → get_or (set (mixed ms us i) i (get_or us i 0)) r 0 ≡ get_or us r 0
    go (yes e) before = rw e (get_or-set_same (mixed ms us i) i (get_or us i 0) 0 (omega (arith, length_mixed ms us i)))
    go (no e) before = get_or-set_other (mixed ms us i) i r (get_or us i 0) 0 e ∙ before e

mixed_old : (ms us : List ℕ) (i r : ℕ) → i ≤ r → get_or (mixed ms us i) r 0 ≡ get_or ms r 0
unfolding mixed
mixed_old ms us zero r l = refl
mixed_old ms us (suc i) r l = get_or-set_other (mixed ms us i) i r (get_or us i 0) 0 (λ e. omega arith) ∙ mixed_old ms us i r (omega arith)

mixed_all : (ms us : List ℕ) → length ms ≡ length us → mixed ms us (length ms) ≡ us
mixed_all ms us e =
    ext_get_or 0 (mixed ms us (length ms)) us (length_mixed ms us (length ms) ∙ e) (λ r l. mixed_new ms us (length ms) r (omega (arith, length_mixed ms us (length ms))) (le_refl (length ms)))

module _ (h : Header) (s : Sound h) where
  -- node j holds different symbols for two messages
  abbrev apart : List ℕ → List ℕ → ℕ → Bool
  apart ms us j = not (eqb (node_of h ms j) (node_of h us j))

  apart_not : (ms us vs : List ℕ) (j : ℕ) → apart ms us j ≡ false → apart us vs j ≡ false → apart ms vs j ≡ false
  apart_not ms us vs j p q = ap not (eq-eqb (node_of h ms j) (node_of h vs j) (eqb-true (node_of h ms j) (node_of h us j) (not-false _ p) ∙ eqb-true (node_of h us j) (node_of h vs j) (not-false _ q)))

  -- the nodes at which two encodings differ
  differ_nodes : (ms us : List ℕ) → differ (encoding h ms) (encoding h us) ≡ count_from h.n 0 (apart ms us)
  unfolding differ encoding
  differ_nodes ms us =
      ap (λ (f : ℕ). count_from f 0 (λ i. not (eqb (get_or (from (node_of h ms) 0 h.n) i 0) (get_or (from (node_of h us) 0 h.n) i 0)))) (length_from (node_of h ms) 0 h.n)
      ∙ count_ext h.n 0 _ (apart ms us) (λ j l b. ap not (ap₂ eqb (at ms j (omega arith)) (at us j (omega arith))))
    where
      at : (us : List ℕ) (j : ℕ) → j < h.n → get_or (from (node_of h us) 0 h.n) j 0 ≡ node_of h us j
      at us j l = get_or_from (node_of h us) 0 h.n j 0 l ∙ ap (node_of h us) (zero-add j)

  apart_none : (ms us : List ℕ) → ms ≡ us → count_from h.n 0 (apart ms us) ≡ 0
  apart_none ms us e = count_none h.n 0 (apart ms us) (λ j l b. ap not (eq-eqb (node_of h ms j) (node_of h us j) (ap (λ (m : List ℕ). node_of h m j) e)))

  -- k nodes that pass the tests of a list of nodes
  nodes_are : (js : List ℕ) → length js ≡ h.k → all_below h.n js ≡ true → distinct js ≡ true → are_nodes h js ≡ true
  unfolding are_nodes
  nodes_are js size_is below different = and_from _ _ (eq-eqb (length js) h.k size_is) (and_from _ _ below different)

  -- The replaced node in the place of the list's node i: k nodes that would fix the message.
  elsewhere : (js ms us : List ℕ) (i x t : ℕ) → are_nodes h js ≡ true → is_message h ms ≡ true → is_message h us ≡ true → i < h.k → (x ≡ get_or (at_nodes h ms js) i 0 → ⊥) → at_nodes h us js ≡ set (at_nodes h ms js) i x → t < h.n → is_in t js ≡ false → node_of h us t ≡ node_of h ms t → ⊥
  elsewhere js ms us i x t p m u row other at low out e =
      let places = nodes_places h js p in
      let nodes = nodes_are (set js i t) (length-set js i t ∙ places.size) (below_set h.n js i t low (all_below_lem h.n js places.low)) (all_distinct (set js i t) (distinct_set js i t places.distinct out)) in
      let same : at_nodes h us (set js i t) ≡ at_nodes h ms (set js i t) =
      map_set (node_of h us) js i t
      ∙ ap (λ (l : List ℕ). set l i (node_of h us t)) at
      ∙ set-set (at_nodes h ms js) i x (node_of h us t)
      ∙ ap (set (at_nodes h ms js) i) e
      ∙ sym (map_set (node_of h ms) js i t) in
      let message : us ≡ ms = one_message h s (set js i t) us ms nodes u m same in
      let long : length (at_nodes h ms js) ≡ h.k = length-map js (node_of h ms) ∙ places.size in
      other (sym (get_or-set_same (at_nodes h ms js) i x 0 (omega arith)) ∙ ap (λ (l : List ℕ). get_or l i 0) (sym at ∙ ap (λ (v : List ℕ). at_nodes h v js) message))

  -- Otherwise k nodes hold the same for two messages.
  least : (ms us : List ℕ) → is_message h ms ≡ true → is_message h us ≡ true → 1 ≤ differ ms us → distance h ≤ differ (encoding h ms) (encoding h us)
  unfolding distance
  least ms us m u some = rw (differ_nodes ms us) (go (dec_le h.k (count_from h.n 0 (λ j. eqb (node_of h ms j) (node_of h us j)))))
    where
      same : Chosen h.k h.n (λ j. eqb (node_of h ms j) (node_of h us j)) → ms ≡ us
      same c = one_message h s c.which ms us (nodes_are c.which c.size c.below c.different) m u (map_is_in (node_of h ms) (node_of h us) c.which (λ j i. eqb-true _ _ (c.pass j i)))

      go : Dec (h.k ≤ count_from h.n 0 (λ j. eqb (node_of h ms j) (node_of h us j))) → h.n - h.k + 1 ≤ count_from h.n 0 (apart ms us)
      go (yes l) = absurd (omega (arith, ap (differ ms) (sym (same (choose h.n h.k _ l))), differ_same ms))
      go (no l) = omega (arith, count_not h.n 0 (λ j. eqb (node_of h ms j) (node_of h us j)))

  module _ (ms us : List ℕ) (m : is_message h ms ≡ true) (u : is_message h us ≡ true) where
    -- symbol r changes
    abbrev changed : ℕ → Bool
    changed r = not (eqb (get_or ms r 0) (get_or us r 0))

    mixed_message : (i : ℕ) → i ≤ h.k → is_message h (mixed ms us i) ≡ true
    unfolding mixed
    mixed_message zero l = m
    mixed_message (suc i) l = set_message h s (mixed ms us i) i (get_or us i 0) (mixed_message i (omega arith)) (message_symbol h s us i u l)

    -- one symbol more alters at most n − k + 1 nodes, and none where it stays
    step : (i : ℕ) → i < h.k → count_from h.n 0 (apart (mixed ms us i) (mixed ms us (suc i))) ≤ when (changed i) 1 * distance h
    unfolding mixed
    step i l =
        by_test (eqb (get_or ms i 0) (get_or us i 0))
        (λ t. rw t (le_of_eq (apart_none (mixed ms us i) (set (mixed ms us i) i (get_or us i 0)) (sym (ap (set (mixed ms us i) i) (sym (mixed_old ms us i i (le_refl i) ∙ eqb-true _ _ t)) ∙ set-get_or (mixed ms us i) i 0)) ∙ sym (zero-mul (distance h)))))
        (λ t. rw (t, one-mul) (le_of_eq (sym (differ_nodes (mixed ms us i) (set (mixed ms us i) i (get_or us i 0))) ∙ alters h s (mixed ms us i) i (get_or us i 0) (mixed_message i (omega arith)) l (message_symbol h s us i u l) (λ e. eqb-false _ _ t (sym (mixed_old ms us i i (le_refl i)) ∙ sym e)))))

    chain : (i : ℕ) → i ≤ h.k → count_from h.n 0 (apart ms (mixed ms us i)) ≤ count_from i 0 changed * distance h
    unfolding mixed count_from
    chain zero l = rw (zero-mul (distance h)) (le_of_eq (apart_none ms ms refl))
    chain (suc i) l =
        rw (count_below i changed, add-mul)
        (omega (arith, count_either h.n 0 (apart ms (mixed ms us (suc i))) (apart ms (mixed ms us i)) (apart (mixed ms us i) (mixed ms us (suc i))) (λ j a b p q. apart_not ms (mixed ms us i) (mixed ms us (suc i)) j p q), chain i (omega arith), step i l))

    most : differ (encoding h ms) (encoding h us) ≤ min h.n (differ ms us * distance h)
    unfolding differ
    most =
        let long : length ms ≡ length us = message_size h ms m ∙ sym (message_size h us u) in
        let all : mixed ms us h.k ≡ us = rw (message_size h ms m) at (mixed_all ms us long) in
        let count : count_from h.k 0 changed ≡ differ ms us = ap (λ (f : ℕ). count_from f 0 changed) (sym (message_size h ms m)) in
        rw (differ_nodes ms us) (le-min (omega (arith, count_not h.n 0 (apart ms us))) (rw (all, count) at (chain h.k (le_refl h.k))))

  pub reaches : Reaches h
  reaches = record { elsewhere = elsewhere; least = least; most = most }

-- of every accepted record
pub record_reaches : (rec : List ℕ) → record_fault rec ≡ 0 → Reaches (header_of rec)
record_reaches rec none = reaches (header_of rec) (faultless_sound rec none)
