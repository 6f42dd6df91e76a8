-- What the nodes of an additive repair send is worth 255·k or more.
use mathlib.Core.Path.{◌≡◌, refl, sym, ap, ap₂, ◌∙◌}
use mathlib.Core.Bool.{Bool, true, false, not, true≢false}
use mathlib.Core.List.{List}
use mathlib.Core.Logic.{⊎_elim, by_cases}
use Prim.Native.Nat.{ℕ, zero, suc, ◌+◌, ◌-◌, ◌*◌, ◌^◌, ◌≤◌, ◌<◌, zero-le}
use native.Mathlib.Nat.{zero-mul, suc-mul, le_trans}
use native.Mathlib.Decide.{dec_le}
use native.Mathlib.Omega.{arith}
use borrow.Author.Tests.{eqb-true, eqb-false, eq-eqb}
use lib.Bits.{bit_xor, xor_self}
use lib.Dec.{eqb, lit<}
use lib.ListN.{length, get_or}
use Rattle.lists.specs.Choice.{pick, when}
use Rattle.lists.specs.Counting.{count_from}
use Rattle.lists.specs.Numbers.{is_in}
use Rattle.lists.proofs.All.{All-of, All-at, map_agree}
use Rattle.std.proofs.lemmas.Bool.{and_parts}
use Rattle.lists.proofs.Cases.{by_test}
use Rattle.lists.proofs.Chosen.{without, count_without}
use Rattle.lists.proofs.Count.{count_not}
use Rattle.lists.proofs.Numbers.{place_is_in, all_below_lem, all_distinct}
use Rattle.lists.proofs.Places.{Places}
use Rattle.field.specs.Kinds.{modulus}
use Rattle.scheme.specs.Sums.{sum}
use Rattle.scheme.proofs.Sums.{count_swap}
use Rattle.generator.specs.declared.Header.{Header}
use Rattle.generator.specs.Records.{header_of, modulus_of, record_fault, Sound}
use Rattle.generator.specs.Codewords.{node_of}
use Rattle.generator.specs.Claims.{is_message, are_nodes}
use Rattle.generator.proofs.Accepts.{faultless_sound}
use Rattle.generator.proofs.Recovery.{nodes_places, one_message}
use Rattle.repair_bound.specs.Additive.{AdditiveRepair, sum_but, sending_count, worth, least_bits, whole_bits, whole_sent, RepairBound}
use Rattle.repair_bound.proofs.Factors.{comb, comb_zero, comb_byte, Bytes, xors, xors_byte, Digits, factors}
use Rattle.repair_bound.proofs.Pairing.{pairing, pairing_right, pairing_zero, pairing_some, across, across_none, across_comb, across_many}
use Rattle.repair_bound.proofs.Words.{sums, bytes, sum_message, sum_node, zero_node, node_byte}
use Rattle.traces.proofs.Claims.{count_others}
use Rattle.repair_bound.proofs.Nodes.{given_message}
use Rattle.repair_bound.proofs.Least.{sum_line, sum_each, worth_least, senders_few}

-- a byte that is paired to 0 with each term is with their sum
pairing_xors : (c m : ℕ) (f : ℕ → ℕ) → ((j : ℕ) → j < m → f j < 256) → ((j : ℕ) → j < m → pairing c (f j) ≡ 0) → pairing c (xors m f) ≡ 0
unfolding xors
pairing_xors c zero f low z = pairing_zero c
pairing_xors c (suc m) f low z =
    pairing_right c (f 0) (xors m (λ j. f (suc j))) (low 0 (omega arith)) (xors_byte m (λ j. f (suc j)) (λ j l. low (suc j) (omega arith)))
    ∙ ap₂ bit_xor (z 0 (omega arith)) (pairing_xors c m (λ j. f (suc j)) (λ j l. low (suc j) (omega arith)) (λ j l. z (suc j) (omega arith)))

-- m terms of at least k, after the first
sum_least : (m k : ℕ) (f : ℕ → ℕ) → ((c : ℕ) → 0 < c → c < suc m → k ≤ f c) → m * k ≤ sum (suc m) f
unfolding sum
sum_least zero k f h = rw (zero-mul k) zero-le
sum_least (suc m) k f h = omega (arith, suc-mul m k, h (suc m) (omega arith) (omega arith), sum_least m k f (λ c low high. h c low (omega arith)))

module _ (h : Header) (s : Sound h) (kind : modulus_of h ≡ 0) (t : ℕ) (bits : ℕ → ℕ) (sent : ℕ → ℕ → ℕ) (target : t < h.n) (repair : AdditiveRepair h t bits sent) where
  abbrev Message : List ℕ → Type 0
  Message ms = is_message h ms ≡ true

  -- the bits of every node, none of node t, and what it sends of its symbol of a message
  abbrev digits : ℕ → ℕ
  digits j = pick (eqb j t) 0 (bits j)

  abbrev sends : ℕ → List ℕ → ℕ
  sends j ms = pick (eqb j t) 0 (sent j (node_of h ms j))

  -- nothing is sent of 0
  sent_zero : (j : ℕ) → j < h.n → (j ≡ t → ⊥) → sent j 0 ≡ 0
  sent_zero j node other = repair.additive j 0 0 node other (lit< tt) (lit< tt) ∙ xor_self (sent j 0)

  sends_digits : (j : ℕ) → j < h.n → Digits sums Message (digits j) (sends j)
  sends_digits j node = go (eqb j t) (λ e. eqb-false j t e)
    where
      go : (b : Bool) → (b ≡ false → j ≡ t → ⊥) → Digits sums Message (pick b 0 (bits j)) (λ ms. pick b 0 (sent j (node_of h ms j)))
      go true other = record { low = λ ms m. lit< tt; add = λ ms us m u. refl }
      go false other = record {
        low = λ ms m. repair.below j (node_of h ms j) node (other refl) (node_byte h s kind ms j m);
        add = λ ms us m u.
            ap (sent j) (sum_node h s kind ms us j m u)
            ∙ repair.additive j (node_of h ms j) (node_of h us j) node (other refl) (node_byte h s kind ms j m) (node_byte h s kind us j u);
      }

  -- where every node sends 0, node t holds 0
  vanishes : (ms : List ℕ) → Message ms → ((j : ℕ) → j < h.n → sends j ms ≡ 0) → node_of h ms t ≡ 0
  vanishes ms m z =
      repair.settles ms (sums ms ms) m (sum_message h s kind ms ms m m)
      (λ j node other. quiet j node other (z j node) ∙ sym (ap (sent j) (zero_node h s kind ms j m) ∙ sent_zero j node other))
      ∙ zero_node h s kind ms t m
    where
      quiet : (j : ℕ) → j < h.n → (j ≡ t → ⊥) → sends j ms ≡ 0 → sent j (node_of h ms j) ≡ 0
      quiet j node other e = by_test (eqb j t) (λ q. absurd (other (eqb-true j t q))) (λ q. rw q at e)

  -- where node t holds the sum of combinations of what is sent
  module _ (R : ℕ → List ℕ) (shape : (j : ℕ) → j < h.n → (length (R j) ≡ digits j) × Bytes (R j)) (is : (ms : List ℕ) → Message ms → node_of h ms t ≡ xors h.n (λ j. comb (R j) (sends j ms))) where
    -- for each byte but 0 at least k nodes take part: otherwise a message has 0 at all of them, and any symbol at node t
    taking : (c : ℕ) → 0 < c → c < 256 → h.k ≤ count_from h.n 0 (λ j. not (across c (R j)))
    taking c pos low =
        by_cases (dec_le h.k (count_from h.n 0 (λ j. not (across c (R j))))) (λ l. l)
        (λ l.
        let idle : ℕ → Bool = λ j. across c (R j) in
        let (x, byte, one) = pairing_some c pos low in
        let count = count_not h.n 0 idle in
        let less = count_without h.n t idle target (across_none c (R t) ((shape t target).0 ∙ rw (eq-eqb t t refl) refl)) in
        let (ms, m, held) = given_message h s (without t idle) (λ j. pick (eqb j t) x 0) (omega (arith, count, less, s.fits)) (λ j. rw (bytes h s kind) (either (eqb j t) x byte)) in
        let at : node_of h ms t ≡ x = ⊎_elim (λ e. absurd (true≢false (sym (and_parts (idle t) _ e).1 ∙ ap not (eq-eqb t t refl)))) (λ e. e ∙ rw (eq-eqb t t refl) refl) (held t target) in
        let none : pairing c (xors h.n (λ j. comb (R j) (sends j ms))) ≡ 0 =
        pairing_xors c h.n (λ j. comb (R j) (sends j ms)) (λ j node. comb_byte (R j) (sends j ms) (shape j node).1)
        (λ j node.
        ⊎_elim (λ e. across_comb c (R j) (sends j ms) (shape j node).1 (and_parts _ (not (eqb j t)) e).0)
        (λ e. ap (pairing c) (ap (comb (R j)) (silent x ms j node e) ∙ comb_zero (R j)) ∙ pairing_zero c) (held j node)) in
        let z : pairing c x ≡ 0 = ap (pairing c) (sym at ∙ is ms m) ∙ none in
        absurd (omega arith))
      where
        either : (b : Bool) (x : ℕ) → x < 256 → pick b x 0 < 256
        either true x l = l
        either false x l = lit< tt

        -- a node that holds 0, or is t, sends nothing
        silent : (x : ℕ) (ms : List ℕ) (j : ℕ) → j < h.n → node_of h ms j ≡ pick (eqb j t) x 0 → sends j ms ≡ 0
        silent x ms j node e = by_test (eqb j t) (λ q. rw q refl) (λ q. rw q (ap (sent j) (rw q at e) ∙ sent_zero j node (eqb-false j t q)))

    -- how many bytes node j takes part for
    few : (j : ℕ) → j < h.n → count_from 256 0 (λ c. not (across c (R j))) ≤ pick (eqb j t) 0 (worth (bits j))
    unfolding worth
    few j node = go (eqb j t) (shape j node).0
      where
        go : (b : Bool) → length (R j) ≡ pick b 0 (bits j) → count_from 256 0 (λ c. not (across c (R j))) ≤ pick b 0 (256 - 2 ^ (8 - bits j))
        go true e = let many : 2 ^ (8 - 0) ≤ count_from 256 0 (λ c. across c (R j)) = rw e at (across_many (R j)) in omega (arith, many, count_not 256 0 (λ c. across c (R j)))
        go false e = let many : 2 ^ (8 - bits j) ≤ count_from 256 0 (λ c. across c (R j)) = rw e at (across_many (R j)) in omega (arith, many, count_not 256 0 (λ c. across c (R j)))

    -- the pairs of a byte and a node that takes part, counted by bytes and by nodes
    counted : 255 * h.k ≤ sum_but t h.n (λ j. worth (bits j))
    unfolding sum_but
    counted =
        let takes : ℕ → ℕ → Bool = λ c j. not (across c (R j)) in
        let rows = sum_least 255 h.k (λ c. count_from h.n 0 (takes c)) taking in
        let columns = sum_line 1 0 h.n (λ j. count_from 256 0 (λ c. takes c j)) (λ j. pick (eqb j t) 0 (worth (bits j))) (λ j. false) (λ j node. omega (arith, few j node)) in
        omega (arith, rows, columns, count_swap 256 h.n takes)

  -- so it is without them
  repair_worths : 255 * h.k ≤ sum_but t h.n (λ j. worth (bits j))
  repair_worths =
      by_cases (dec_le (255 * h.k) (sum_but t h.n (λ j. worth (bits j)))) (λ l. l)
      (λ l. absurd
      (factors sums h.n Message digits sends (λ ms. node_of h ms t) (sum_message h s kind) sends_digits
      (record { byte = λ ms m. node_byte h s kind ms t m; add = λ ms us m u. sum_node h s kind ms us t m u })
      vanishes (λ R shape is. l (counted R shape is))))

  repair_bits : 255 * h.k ≤ 128 * sum_but t h.n bits
  repair_bits = le_trans repair_worths (sum_each t h.n bits)

  repair_twice : h.k ≤ 127 → 2 * h.k ≤ sum_but t h.n bits
  repair_twice few = omega (arith, repair_bits)

  -- what d nodes send is at least so many bits
  repair_moved : (d : ℕ) → sending_count t h.n bits ≤ d → least_bits d h.k ≤ sum_but t h.n bits
  repair_moved d few = worth_least t h.n bits h.k d few repair_worths

  repair_all : least_bits (h.n - 1) h.k ≤ sum_but t h.n bits
  repair_all = repair_moved (h.n - 1) (senders_few t h.n bits target)

-- any k nodes that send their symbols
module _ (h : Header) (s : Sound h) (kind : modulus_of h ≡ 0) (t : ℕ) (js : List ℕ) (target : t < h.n) (nodes : are_nodes h js ≡ true) (other : is_in t js ≡ false) where
  abbrev list : Places h.n h.k js
  list = nodes_places h js nodes

  -- the message is settled by the k symbols, and so is node t
  whole_settles : (ms us : List ℕ) → is_message h ms ≡ true → is_message h us ≡ true → ((j : ℕ) → j < h.n → (j ≡ t → ⊥) → whole_sent js j (node_of h ms j) ≡ whole_sent js j (node_of h us j)) → node_of h ms t ≡ node_of h us t
  whole_settles ms us m u same =
      ap (λ (l : List ℕ). node_of h l t)
      (one_message h s js ms us nodes m u
      (map_agree (node_of h ms) (node_of h us) js
      (All-of (λ j. node_of h ms j ≡ node_of h us j) 0 js
      (λ i inside.
      let j = get_or js i 0 in
      let in_list : is_in j js ≡ true = place_is_in js i inside in
      rw in_list at (same j (All-at (λ j. j < h.n) 0 js list.low i inside) (λ e. true≢false (sym in_list ∙ ap (λ (x : ℕ). is_in x js) e ∙ other)))))))

  whole_repair : AdditiveRepair h t (whole_bits js) (whole_sent js)
  whole_repair = record {
    below = λ j x node apart low. below (is_in j js) x low;
    additive = λ j x y node apart hx hy. additive (is_in j js) x y;
    settles = whole_settles;
  }
    where
      below : (b : Bool) (x : ℕ) → x < 256 → pick b x 0 < 2 ^ pick b 8 0
      below true x l = l
      below false x l = lit< tt

      additive : (b : Bool) (x y : ℕ) → pick b (bit_xor x y) 0 ≡ bit_xor (pick b x 0) (pick b y 0)
      additive true x y = refl
      additive false x y = refl

  -- they are worth 255·k at most, and by the bound at least
  whole_worth : sum_but t h.n (λ j. worth (whole_bits js j)) ≡ 255 * h.k
  unfolding sum_but worth
  whole_worth =
      let most = sum_line 0 255 h.n (λ j. pick (eqb j t) 0 (worth (whole_bits js j))) (λ j. 0) (λ j. is_in j js) (λ j node. each (eqb j t) (is_in j js)) in
      let others = count_others h.n js (all_below_lem h.n js list.low) (all_distinct js list.distinct) in
      omega (arith, most, others, count_not h.n 0 (λ j. is_in j js), list.size, repair_worths h s kind t (whole_bits js) (whole_sent js) target whole_repair)
    where
      each : (e b : Bool) → pick e 0 (worth (pick b 8 0)) ≤ 0 * 0 + 255 * when b 1
      each true b = zero-le
      each false true = omega arith
      each false false = zero-le

-- every accepted record of kind 2
pub repair_bound : (rec : List ℕ) → record_fault rec ≡ 0 → get_or rec 0 0 ≡ 2 → RepairBound (header_of rec)
unfolding header_of modulus
repair_bound rec none kind =
    let s = faultless_sound rec none in
    let bytes : modulus_of (header_of rec) ≡ 0 = rw kind in
    record {
      worths = repair_worths (header_of rec) s bytes;
      each_bit = repair_bits (header_of rec) s bytes;
      twice = repair_twice (header_of rec) s bytes;
      moved = repair_moved (header_of rec) s bytes;
      moved_all = repair_all (header_of rec) s bytes;
      whole = whole_repair (header_of rec) s bytes;
      whole_worth = whole_worth (header_of rec) s bytes;
    }
