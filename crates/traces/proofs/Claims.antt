-- Which headers have repair by traces, what it gives for every message, and how many bits it moves.
use mathlib.Core.Path.{◌≡◌, refl, sym, ap, ap₂, ◌∙◌}
use mathlib.Core.Bool.{Bool, true, false, ◌&&◌, ◌||◌, not}
use mathlib.Core.Logic.{inl, inr, ⊎_elim}
use mathlib.Core.List.{List, [], ◌∷◌}
use Prim.Native.Nat.{ℕ, zero, suc, ◌+◌, ◌-◌, ◌/◌, ◌%◌, ◌^◌, ◌≤◌, ◌<◌}
use native.Mathlib.Nat.{zero-add}
use native.Mathlib.Omega.{arith}
use borrow.Author.Tests.{eqb-true, eqb-false, eq-eqb, leb-true, leb-false, le-leb, lt-leb, ltb-true, ltb-false, ne_eqb}
use lib.Bits.{bit_xor}
use lib.Dec.{eqb, ltb, leb}
use lib.ListN.{length, get_or}
use Rattle.lists.specs.Choice.{pick}
use Rattle.lists.specs.Counting.{count_from, passing_from}
use Rattle.lists.specs.Numbers.{all_below, is_in, distinct}
use Rattle.lists.proofs.All.{All-at}
use Rattle.std.proofs.lemmas.Bool.{and_from, and_parts}
use Rattle.lists.proofs.Cases.{by_test}
use Rattle.lists.proofs.Chosen.{without, count_without}
use Rattle.lists.proofs.Count.{count_ext, count_all}
use Rattle.lists.proofs.Passing.{passing_within, length_passing}
use Rattle.lists.proofs.Rows.{length_from, get_or_from}
use Rattle.lists.proofs.Numbers.{at_below, below_cons, cons_below}
use Rattle.field.specs.Kinds.{modulus}
use Rattle.generator.specs.declared.Header.{Header}
use Rattle.generator.specs.Records.{header_of, modulus_of, size, record_fault, Sound}
use Rattle.generator.specs.Codewords.{node_of, encoding, is_word}
use Rattle.generator.specs.Claims.{is_message}
use Rattle.generator.proofs.Accepts.{faultless_sound}
use Rattle.generator.proofs.Words.{words_encode}
use Rattle.generator.proofs.Bounds.{node_from_below}
use Rattle.generator.proofs.Recovery.{message_below}
use Rattle.traces.specs.Traces.{TraceBits, trace_of, element, xor_below}
use Rattle.traces.specs.Claims.{TraceLaws, moved_by_traces, moved_fewest, moved_whole, Repairing, RepairsByTraces, BytesRepair}
use Rattle.traces.specs.Repairs.{bits_for, bits, spare, sends, senders, sent_digit, part, repaired}
use Rattle.traces.proofs.Bytes.{Subfield, trace_additive, trace_bit, subfield_one, subfield_two, subfield_four}
use Rattle.traces.proofs.Words.{repair_symbol}

-- what is known of a header with m nodes missing beside the target, whose nodes send b bits, b not 0
pub record Repairable (h : Header) (m : ℕ) : Type 0 where
  pub kind : modulus_of h ≡ 0
  pub subfield : Subfield (bits h m)
  pub enough : (2 ^ bits h m) ^ (8 / bits h m - 1) + m ≤ h.n - h.k
  pub width : TraceBits (bits h m)

-- what holds at 1, 2 and 4 holds at each width
pub by_width : (P : ℕ → Type 0) → P 1 → P 2 → P 4 → (b : ℕ) → TraceBits b → P b
by_width P one two four b w = ⊎_elim (λ e. rw e one) (λ v. ⊎_elim (λ e. rw e two) (λ e. rw e four) v) w

-- by the three cases of b
module _ (h : Header) (m : ℕ) where
  abbrev left : ℕ
  left = h.n - h.k - m

  pub bits_one : modulus_of h ≡ 0 → 128 ≤ left → bits h m ≡ 1
  unfolding bits bits_for
  bits_one e r = rw (eq-eqb (modulus_of h) 0 e, le-leb 128 left r)

  pub bits_two : modulus_of h ≡ 0 → left < 128 → 64 ≤ left → bits h m ≡ 2
  unfolding bits bits_for
  bits_two e u r = rw (eq-eqb (modulus_of h) 0 e, lt-leb 128 left u, le-leb 64 left r)

  pub bits_four : modulus_of h ≡ 0 → left < 64 → 16 ≤ left → bits h m ≡ 4
  unfolding bits bits_for
  bits_four e u r = rw (eq-eqb (modulus_of h) 0 e, lt-leb 128 left (omega arith), lt-leb 64 left u, le-leb 16 left r)

  bits_none : left < 16 → bits h m ≡ 0
  unfolding bits bits_for
  bits_none u = rw (lt-leb 128 left (omega arith), lt-leb 64 left (omega arith), lt-leb 16 left u) (same (eqb (modulus_of h) 0))
    where
      same : (t : Bool) → pick {A = ℕ} t 0 0 ≡ 0
      same true = refl
      same false = refl

  of_width : (b : ℕ) → bits h m ≡ b → modulus_of h ≡ 0 → Subfield b → (2 ^ b) ^ (8 / b - 1) + m ≤ h.n - h.k → TraceBits b → Repairable h m
  of_width b e kind f r w = record { kind = kind; subfield = rw e f; enough = rw e r; width = rw e w }

  bits_other : eqb (modulus_of h) 0 ≡ false → bits h m ≡ 0
  unfolding bits
  bits_other t = rw t

  pub repairable : (bits h m ≡ 0 → ⊥) → Repairable h m
  repairable some =
      let kind : modulus_of h ≡ 0 = by_test (eqb (modulus_of h) 0) (λ t. eqb-true (modulus_of h) 0 t) (λ t. absurd (some (bits_other t))) in
      by_test (leb 128 left)
      (λ t. let r = leb-true 128 left t in of_width 1 (bits_one kind r) kind subfield_one (omega arith) (inl refl))
      (λ t. let u = leb-false 128 left t in
      by_test (leb 64 left)
      (λ t. let r = leb-true 64 left t in of_width 2 (bits_two kind u r) kind subfield_two (omega arith) (inr (inl refl)))
      (λ t. let u = leb-false 64 left t in
      by_test (leb 16 left)
      (λ t. let r = leb-true 16 left t in of_width 4 (bits_four kind u r) kind subfield_four (omega arith) (inr (inr refl)))
      (λ t. absurd (some (bits_none (leb-false 16 left t))))))

  -- where there is repair by traces, and where not: number 17's condition
  pub bits_some : modulus_of h ≡ 0 → 16 + m ≤ h.n - h.k → bits h m ≡ 0 → ⊥
  bits_some kind r none =
      by_test (leb 128 left) (λ t. omega (arith, bits_one kind (leb-true 128 left t)))
      (λ t. let u = leb-false 128 left t in
      by_test (leb 64 left) (λ t. omega (arith, bits_two kind u (leb-true 64 left t))) (λ t. omega (arith, bits_four kind (leb-false 64 left t) (omega arith))))

  pub no_repair : eqb (bits h m) 0 ≡ (not (eqb (modulus_of h) 0) || ltb left 16)
  no_repair =
      by_test (eqb (modulus_of h) 0)
      (λ t. by_test (ltb left 16)
      (λ u. rw (t, u, bits_none (ltb-true left 16 u)))
      (λ u. let many = ltb-false left 16 u in rw (t, u) (ne_eqb (bits h m) 0 (bits_some (eqb-true (modulus_of h) 0 t) (omega arith)))))
      (λ t. rw (t, bits_other t))

  -- at most 4 bits
  pub bits_few : bits h m ≤ 4
  bits_few = by_test (eqb (bits h m) 0) (λ e. omega (arith, eqb-true (bits h m) 0 e)) (λ e. by_width (λ b. b ≤ 4) (omega arith) (omega arith) (omega arith) (bits h m) (repairable (eqb-false (bits h m) 0 e)).width)

-- sums of functions that agree below n
pub xor_below_agree : (n : ℕ) (f g : ℕ → ℕ) → ((i : ℕ) → i < n → f i ≡ g i) → xor_below n f ≡ xor_below n g
unfolding xor_below
xor_below_agree zero f g h = refl
xor_below_agree (suc n) f g h = ap₂ bit_xor (xor_below_agree n f g (λ i l. h i (omega arith))) (h n (omega arith))

-- the nodes that send are nodes
pub sender_below : (h : Header) (t : ℕ) (missing : List ℕ) (i : ℕ) → i < length (senders h t missing) → get_or (senders h t missing) i 0 < h.n
unfolding senders
sender_below h t missing i l = let w = All-at (λ j. (0 ≤ j) × (j < 0 + h.n)) 0 (passing_from h.n 0 (sends t missing)) (passing_within h.n 0 (sends t missing)) i l in omega (arith, w.1)

pub senders_below : (h : Header) (t : ℕ) (missing : List ℕ) → all_below h.n (senders h t missing) ≡ true
senders_below h t missing = at_below h.n (senders h t missing) (sender_below h t missing)

-- of n numbers those that are not in a list of distinct ones
pub count_others : (n : ℕ) (l : List ℕ) → all_below n l ≡ true → distinct l ≡ true → count_from n 0 (λ j. not (is_in j l)) + length l ≡ n
unfolding is_in distinct
count_others n [] low d = omega (arith, count_all n 0 (λ j. true) (λ j a b. refl))
count_others n (x ∷ l) low d =
    let p : ℕ → Bool = λ j. not (is_in j l) in
    let (here, later) = below_cons n x l low in
    let one : count_from n 0 p ≡ suc (count_from n 0 (without x p)) = count_without n x p here (and_parts _ (distinct l) d).0 in
    let same : count_from n 0 (without x p) ≡ count_from n 0 (λ j. not (eqb j x || is_in j l)) = count_ext n 0 _ _ (λ j a b. apart (is_in j l) (eqb j x)) in
    omega (arith, one, same, count_others n l later (and_parts (not (is_in x l)) _ d).1)
  where
    apart : (a b : Bool) → (not a && not b) ≡ not (b || a)
    apart true true = refl
    apart true false = refl
    apart false true = refl
    apart false false = refl

-- the nodes that send are all but the target and the missing ones
pub senders_many : (h : Header) (t : ℕ) (missing : List ℕ) → Repairing h t missing → distinct missing ≡ true → length (senders h t missing) ≡ h.n - 1 - length missing
unfolding senders sends distinct
senders_many h t missing r d =
    let count = count_others h.n (t ∷ missing) (cons_below h.n t missing r.inside r.nodes) (and_from _ _ (ap not r.others) d) in
    omega (arith, count, length_passing h.n 0 (sends t missing))

module _ (h : Header) (s : Sound h) where
  -- the symbol of node t of every word
  pub repair_word : (ws : List ℕ) (t : ℕ) (missing : List ℕ) → length ws ≡ h.n → all_below (size h) ws ≡ true → is_word h ws ≡ true → Repairing h t missing → repaired h t missing (λ i. let j = get_or (senders h t missing) i 0 in sent_digit h t missing j (get_or ws j 0)) ≡ get_or ws t 0
  repair_word ws t missing l low w r = let a = repairable h (length missing) r.some in repair_symbol h s a.kind t missing a.subfield r a.enough ws l low w

  -- what the n nodes hold is a word
  held_word : (ms : List ℕ) → is_message h ms ≡ true → (all_below (size h) (encoding h ms) ≡ true) × (is_word h (encoding h ms) ≡ true)
  unfolding encoding node_of
  held_word ms m =
      let low : all_below (size h) (encoding h ms) ≡ true = at_below (size h) (encoding h ms) (λ i l. held_below i l) in
      (low, (words_encode h s (encoding h ms) (length_from (node_of h ms) 0 h.n) low).1 (ms, m, refl))
    where
      held_below : (i : ℕ) → i < length (encoding h ms) → get_or (encoding h ms) i 0 < size h
      held_below i l = rw (get_or_from (node_of h ms) 0 h.n i 0 (omega (arith, length_from (node_of h ms) 0 h.n))) (node_from_below h s 0 ms (0 + i) (message_below h ms m))

  held_at : (ms : List ℕ) (j : ℕ) → j < h.n → get_or (encoding h ms) j 0 ≡ node_of h ms j
  unfolding encoding
  held_at ms j l = get_or_from (node_of h ms) 0 h.n j 0 l ∙ ap (node_of h ms) (zero-add j)

  -- what node t holds for every message, from what the nodes that are there send
  pub repair_node : (ms : List ℕ) (t : ℕ) (missing : List ℕ) → is_message h ms ≡ true → Repairing h t missing → repaired h t missing (λ i. let j = get_or (senders h t missing) i 0 in sent_digit h t missing j (node_of h ms j)) ≡ node_of h ms t
  unfolding repaired encoding
  repair_node ms t missing m r =
      let (low, word) = held_word ms m in
      xor_below_agree (length (senders h t missing)) _ _ (λ i l. let j = get_or (senders h t missing) i 0 in ap (λ (x : ℕ). part h (bits h (length missing)) t j (sent_digit h t missing j x)) (sym (held_at ms j (sender_below h t missing i l))))
      ∙ repair_word (encoding h ms) t missing (length_from (node_of h ms) 0 h.n) low word r
      ∙ held_at ms t r.inside

  -- both together
  pub repairs_by_traces : RepairsByTraces h
  repairs_by_traces = record { words = repair_word; messages = repair_node }

-- an accepted record of kind 2
module _ (h : Header) (kind : modulus_of h ≡ 0) where
  pub enough : (count : ℕ) → (bits h count ≡ 0 → ⊥) → TraceBits (bits h count) × (2 ^ (8 - bits h count) + count ≤ h.n - h.k)
  enough count some =
      let r = repairable h count some in
      let fits : (b : ℕ) → TraceBits b → (2 ^ b) ^ (8 / b - 1) + count ≤ h.n - h.k → 2 ^ (8 - b) + count ≤ h.n - h.k = by_width (λ b. (2 ^ b) ^ (8 / b - 1) + count ≤ h.n - h.k → 2 ^ (8 - b) + count ≤ h.n - h.k) (λ e. e) (λ e. e) (λ e. e) in
      (r.width, fits (bits h count) r.width r.enough)

  pub least : (count b : ℕ) → TraceBits b → 2 ^ (8 - b) + count ≤ h.n - h.k → bits h count ≤ b
  least count b w r = by_width (λ b. 2 ^ (8 - b) + count ≤ h.n - h.k → bits h count ≤ b) one two (λ e. bits_few h count) b w r
    where
      one : 2 ^ (8 - 1) + count ≤ h.n - h.k → bits h count ≤ 1
      one e = omega (arith, bits_one h count kind (omega arith))

      two : 2 ^ (8 - 2) + count ≤ h.n - h.k → bits h count ≤ 2
      two e =
          by_test (leb 128 (h.n - h.k - count))
          (λ t. omega (arith, bits_one h count kind (leb-true 128 (h.n - h.k - count) t)))
          (λ t. omega (arith, bits_two h count kind (leb-false 128 (h.n - h.k - count) t) (omega arith)))

  -- by the three cases of b: what is left above 2^(8 − b)
  pub record Spared (count b more : ℕ) : Type 0 where
    pub within : more ≤ h.n - h.k - count - 2 ^ (8 - b) → bits h (count + more) ≡ b
    pub past : h.n - h.k - count - 2 ^ (8 - b) < more → bits h (count + more) ≡ b → ⊥

  spared_at : (count more : ℕ) → (bits h count ≡ 0 → ⊥) → Spared count (bits h count) more
  spared_at count more some =
      let left : ℕ = h.n - h.k - count in
      by_test (leb 128 left)
      (λ t. let r = leb-true 128 left t in rw (bits_one h count kind r) (record { within = λ e. bits_one h (count + more) kind (omega arith); past = λ e f. not_one (count + more) (omega arith) f }))
      (λ t. let u = leb-false 128 left t in
      by_test (leb 64 left)
      (λ t. let r = leb-true 64 left t in rw (bits_two h count kind u r) (record { within = λ e. bits_two h (count + more) kind (omega arith) (omega arith); past = λ e f. not_two (count + more) (omega arith) f }))
      (λ t. let v = leb-false 64 left t in
      by_test (leb 16 left)
      (λ t. let r = leb-true 16 left t in rw (bits_four h count kind v r) (record { within = λ e. bits_four h (count + more) kind (omega arith) (omega arith); past = λ e f. not_four (count + more) (omega arith) f }))
      (λ t. absurd (some (bits_none h count (leb-false 16 left t))))))
    where
      not_four : (m : ℕ) → h.n - h.k - m < 16 → bits h m ≡ 4 → ⊥
      not_four m u e = omega (arith, bits_none h m u)

      not_two : (m : ℕ) → h.n - h.k - m < 64 → bits h m ≡ 2 → ⊥
      not_two m u e =
          by_test (leb 16 (h.n - h.k - m))
          (λ t. omega (arith, bits_four h m kind u (leb-true 16 (h.n - h.k - m) t)))
          (λ t. omega (arith, bits_none h m (leb-false 16 (h.n - h.k - m) t)))

      not_one : (m : ℕ) → h.n - h.k - m < 128 → bits h m ≡ 1 → ⊥
      not_one m u e =
          by_test (leb 64 (h.n - h.k - m))
          (λ t. omega (arith, bits_two h m kind u (leb-true 64 (h.n - h.k - m) t)))
          (λ t. let v = leb-false 64 (h.n - h.k - m) t in
          by_test (leb 16 (h.n - h.k - m))
          (λ t. omega (arith, bits_four h m kind v (leb-true 16 (h.n - h.k - m) t)))
          (λ t. omega (arith, bits_none h m (leb-false 16 (h.n - h.k - m) t))))

  -- 255 nodes
  pub moves_one : h.n ≡ 255 → h.k ≤ 127 → moved_by_traces h ≡ 254
  unfolding moved_by_traces
  moves_one n k = rw (bits_one h 0 kind (omega arith), n)

  pub moves_two : h.n ≡ 255 → 127 < h.k → h.k ≤ 191 → moved_by_traces h ≡ 508
  unfolding moved_by_traces
  moves_two n l k = rw (bits_two h 0 kind (omega arith) (omega arith), n)

  pub moves_four : h.n ≡ 255 → 191 < h.k → h.k ≤ 239 → moved_by_traces h ≡ 1016
  unfolding moved_by_traces
  moves_four n l k = rw (bits_four h 0 kind (omega arith) (omega arith), n)

  moves_fewest : h.n ≡ 255 → h.k ≤ 127 → moved_fewest h ≡ 127 + h.k
  unfolding moved_fewest spare
  moves_fewest n k = rw (bits_one h 0 kind (omega arith)) (omega arith)

  moves_fewer : h.n ≡ 255 → 32 ≤ h.k → h.k ≤ 239 → moved_by_traces h < moved_whole h
  unfolding moved_whole
  moves_fewer n l k =
      by_test (leb h.k 127)
      (λ t. let m = moves_one n (leb-true h.k 127 t) in omega arith)
      (λ t. let low : 127 < h.k = leb-false h.k 127 t in
      by_test (leb h.k 191)
      (λ u. let m = moves_two n low (leb-true h.k 191 u) in omega arith)
      (λ u. let high : 191 < h.k = leb-false h.k 191 u in let m = moves_four n high k in omega arith))

-- every accepted record of kind 2
pub bytes_repair : (rec : List ℕ) → record_fault rec ≡ 0 → get_or rec 0 0 ≡ 2 → BytesRepair (header_of rec)
unfolding header_of modulus spare
bytes_repair rec none two =
    let kind : modulus_of (header_of rec) ≡ 0 = rw two in
    record {
      some = λ count. bits_some (header_of rec) count kind;
      enough = enough (header_of rec) kind;
      least = least (header_of rec) kind;
      spared = λ count more some. (spared_at (header_of rec) kind count more some).within;
      beyond = λ count more some. (spared_at (header_of rec) kind count more some).past;
      repairs = repairs_by_traces (header_of rec) (faultless_sound rec none);
      moves_one = moves_one (header_of rec) kind;
      moves_two = moves_two (header_of rec) kind;
      moves_four = moves_four (header_of rec) kind;
      moves_fewest = moves_fewest (header_of rec) kind;
      moves_fewer = moves_fewer (header_of rec) kind;
    }

-- the trace of a byte
pub trace_laws : TraceLaws
trace_laws =
    record {
      additive = trace_additive;
      named = λ b x w. by_width (λ b. x < 256 → element b (trace_of b x % 2 ^ b) ≡ trace_of b x) (subfield_one.elements x) (subfield_two.elements x) (subfield_four.elements x) b w;
      onto_two = λ x low. trace_bit x low;
    }
