-- The sums of the base word with a lane's placed symbols, in the order of the nodes, are the lane's encoding.
use mathlib.Core.Path.{◌≡◌, refl, sym, ap, ◌∙◌}
use mathlib.Core.Bool.{true, not}
use mathlib.Core.List.{List, [], ◌∷◌, ◌++◌, append-nil}
use Prim.Native.Nat.{ℕ, zero, suc, ◌+◌, ◌-◌, ◌%◌, ◌<◌}
use native.Mathlib.Nat.{mod-lt, mod_self, mod-eq_of_lt, add-mod_left, add_comm, sub-zero, zero-add, add-zero}
use native.Mathlib.Omega.{arith}
use borrow.Author.Tests.{eqb-true, ltb-true, ltb-false}
use lib.Dec.{ltb}
use lib.ListN.{length, get_or, take, drop, set, length-set}
use lib.Seq.{get_or-take, length-take-le, ext_get_or, take-length, drop-length}
use Rattle.std.specs.Prelude.{reverse}
use Rattle.std.proofs.lemmas.List.{length-reverse, get_or-reverse}
use Rattle.lists.specs.Numbers.{all_below}
use Rattle.lists.specs.Padded.{zeros}
use Rattle.lists.proofs.All.{Distinct-at}
use Rattle.lists.proofs.Cases.{by_test}
use Rattle.lists.proofs.Fill.{length_zeros, drop_zeros}
use Rattle.lists.proofs.Numbers.{at_below, below_get_or, below_cons, below_drop, below_set}
use Rattle.lists.proofs.Padding.{below_zeros, get_or_zeros}
use Rattle.lists.specs.Rows.{from}
use Rattle.lists.proofs.Rows.{from_ext, length_from, get_or_from}
use Rattle.field.specs.Fields.{is_field, size_of, add}
use Rattle.field.specs.Inner.Sums.{dot}
use Rattle.field.proofs.Arithmetic.{mul-zero}
use Rattle.field.proofs.BothKinds.{arithmetic}
use Rattle.field.proofs.FieldOf.{size_pos}
use Rattle.field.proofs.Sums.{dot_below}
use Rattle.generator.specs.declared.Header.{Header}
use Rattle.generator.specs.Records.{modulus_of, size, distance, Sound}
use Rattle.generator.specs.Generator.{entry_at, base_word}
use Rattle.generator.specs.Codewords.{node_of, node_from, encoding}
use Rattle.generator.specs.Shifts.{shifts, negative}
use Rattle.generator.proofs.Bounds.{entry_at_below, node_from_below}
use Rattle.generator.proofs.Entries.{entry_at_zero}
use Rattle.generator.proofs.Recovery.{shifts_are_places}
use Rattle.generator.proofs.LaidShifts.{negative_below}
use Rattle.generator.proofs.Sound.{weight_fits}
use Rattle.plan.specs.Plans.{plan_of}
use Rattle.plan.proofs.Plans.{shift_in, shift_below, base_in, base_room, entry_read}
use Rattle.sliding_sums.specs.Inner.Windows.{window_sums}
use Rattle.encode.specs.Inner.OneLane.{placed_from, by_node}
use Rattle.encode.proofs.Placed.{past, Leads, placed_sum}

-- sums with zeros are 0
zeros_sum : (p : ℕ) → is_field p ≡ true → (ws : List ℕ) (m : ℕ) → all_below (size_of p) ws ≡ true → dot p ws (zeros m) ≡ 0
unfolding dot zeros
zeros_sum p v [] m b = refl
zeros_sum p v (w ∷ ws) zero b = refl
zeros_sum p v (w ∷ ws) (suc m) b =
    let A = arithmetic p v in
    ap (λ (x : ℕ). add p x (dot p ws (zeros m))) (mul-zero A w (below_cons (size_of p) w ws b).0)
    ∙ ap (add p 0) (zeros_sum p v ws m (below_cons (size_of p) w ws b).1)
    ∙ A.add-zero 0 (size_pos p v)

from_negative : (n j s : ℕ) → j < n → (s + (n - negative n j)) % n ≡ (j + s) % n
unfolding negative
from_negative n zero s node =
    let none : negative n 0 ≡ 0 = ap (λ (x : ℕ). x % n) (sub-zero n) ∙ mod_self n in
    ap (λ (x : ℕ). (s + (n - x)) % n) none ∙ ap (λ (x : ℕ). (s + x) % n) (sub-zero n) ∙ ap (λ (x : ℕ). x % n) (add_comm s n) ∙ add-mod_left n s ∙ ap (λ (x : ℕ). x % n) (sym (zero-add s))
from_negative n (suc j) s node =
    let less : n - suc j < n = omega arith in
    let same : s + (n - (n - suc j)) ≡ suc j + s = omega arith in
    rw (mod-eq_of_lt less) (ap (λ (x : ℕ). x % n) same)

-- sums from each place in the order of the nodes: the first stays, and the others stand the other way round
node_order : (x : ℕ) (xs : List ℕ) → x ∷ reverse xs ≡ by_node (x ∷ xs)
unfolding by_node negative
node_order x xs =
    let n : ℕ = length (x ∷ xs) in
    let f : ℕ → ℕ = λ j. get_or (x ∷ xs) (negative n j) 0 in
    ext_get_or 0 (x ∷ reverse xs) (from f 0 n) (ap suc (length-reverse xs) ∙ sym (length_from f 0 n))
    (λ i inside. at i (omega (arith, length-reverse xs)) ∙ sym (get_or_from f 0 n i 0 (omega (arith, length-reverse xs)) ∙ ap f (zero-add i)))
  where
    at : (i : ℕ) → i < length (x ∷ xs) → get_or (x ∷ reverse xs) i 0 ≡ get_or (x ∷ xs) (negative (length (x ∷ xs)) i) 0
    at zero inside = let n : ℕ = length (x ∷ xs) in ap (λ (j : ℕ). get_or (x ∷ xs) j 0) (sym (ap (λ (j : ℕ). j % n) (sub-zero n) ∙ mod_self n))
    at (suc i) inside =
        let low : i < length xs = omega arith in
        let less : length (x ∷ xs) - suc i < length (x ∷ xs) = omega arith in
        let place : length (x ∷ xs) - suc i ≡ suc (length xs - 1 - i) = omega arith in
        get_or-reverse xs i 0 low ∙ ap (λ (j : ℕ). get_or (x ∷ xs) j 0) (sym place ∙ sym (mod-eq_of_lt less))

-- the same for a list of which all but the first place was lent
pub turned : (xs ys : List ℕ) → 0 < length xs → ys ≡ reverse (take (length xs - 1) (drop 1 xs)) → take 1 xs ++ (ys ++ drop (length xs - 1) (drop 1 xs)) ≡ by_node xs
turned [] ys some e = absurd (omega arith)
turned (x ∷ xs) ys some e =
    let all : length (x ∷ xs) - 1 ≡ length xs = omega arith in
    rw (e, all, take-length xs, drop-length xs, append-nil (reverse xs)) (node_order x xs)

module _ (h : Header) (s : Sound h) where
  abbrev places : List ℕ
  places = (plan_of h).shifts

  abbrev base : List ℕ
  base = (plan_of h).base

  -- the first d entries of the base word; the others are 0
  abbrev entries : List ℕ
  entries = take (distance h) base

  pub length_entries : length entries ≡ distance h
  length_entries = length-take-le _ _ (omega (arith, weight_fits h s, base_room h))

  entry_is : (i : ℕ) → i < h.n → get_or base i 0 ≡ entry_at h 0 i
  unfolding base_word
  entry_is i low = base_in h s i low ∙ get_or_from (entry_at h 0) 0 h.n i 0 low ∙ ap (entry_at h 0) (zero-add i)

  entries_at : (i : ℕ) → i < h.n → get_or entries i 0 ≡ get_or base i 0
  entries_at i low =
      by_test (ltb i (distance h))
      (λ e. get_or-take (distance h) base i 0 (ltb-true _ _ e))
      (λ e.
      let place : (i + 0) % h.n ≡ i = rw (add-zero i) (mod-eq_of_lt low) in
      past entries i (omega (arith, length_entries, ltb-false i (distance h) e))
      ∙ sym (entry_is i low ∙ eqb-true (entry_at h 0 i) 0 (entry_at_zero h s 0 i ∙ ap not (ap (λ (x : ℕ). ltb x (distance h)) place ∙ e))))

  pub entries_below : all_below (size h) entries ≡ true
  entries_below =
      at_below (size h) entries
      (λ i inside.
      let low : i < h.n = omega (arith, length_entries, weight_fits h s) in
      rw (entries_at i low, entry_is i low) (entry_at_below h s 0 i))

  -- from place −j on the base word meets each row's symbol with its entry of node j
  leads : (j : ℕ) → j < h.n → Leads h h.n j (negative h.n j) places entries
  leads j node =
      record {
        low = λ r row. shift_below h s r row;
        apart = λ r u less row e.
            absurd (omega (arith, Distinct-at 0 (shifts h) (shifts_are_places h s).distinct u r (omega (arith, (shifts_are_places h s).size)) (omega (arith, (shifts_are_places h s).size)) (sym (shift_in h s u row) ∙ e ∙ shift_in h s r (omega arith))));
        entries = λ r row.
            let place = from_negative h.n j (get_or places r 0) node in
            ap (λ (x : ℕ). get_or entries x 0) place ∙ entries_at _ (mod-lt (j + get_or places r 0) (omega arith)) ∙ entry_read h s r j row node;
        from_low = negative_below h.n j (omega arith);
        short = omega (arith, length_entries, weight_fits h s);
        symbols = entries_below;
      }

  -- a node's sum
  node_sum : (ms : List ℕ) → length ms ≡ h.k → all_below (size h) ms ≡ true → (j : ℕ) → j < h.n → dot (modulus_of h) entries (drop (negative h.n j) (placed_from h.n 0 places ms (zeros 510))) ≡ node_from 0 h ms j
  node_sum ms count symbols j node =
      let p = modulus_of h in
      let t = negative h.n j in
      let held = node_from_below h s 0 ms j symbols in
      placed_sum h s h.n j t places entries (leads j node) 0 ms (zeros 510) (omega arith) (omega (arith, length_zeros 510, s.byte)) symbols (below_zeros (size h) 510 (size_pos p s.field)) (λ u high row. (get_or_zeros 510 (get_or places u 0), get_or_zeros 510 (get_or places u 0 + h.n)))
      ∙ ap (λ (x : ℕ). add p x (node_from 0 h ms j)) (ap (dot p entries) (drop_zeros t 510) ∙ zeros_sum p s.field entries (510 - t) entries_below)
      ∙ (arithmetic p s.field).add_comm 0 _ (size_pos p s.field) held
      ∙ (arithmetic p s.field).add-zero _ held

  -- the sums are the encoding
  pub lane_sums : (ms : List ℕ) → length ms ≡ h.k → all_below (size h) ms ≡ true → by_node (window_sums (modulus_of h) entries (placed_from h.n 0 places ms (zeros 510)) h.n) ≡ encoding h ms
  unfolding by_node window_sums encoding node_of
  lane_sums ms count symbols =
      let f : ℕ → ℕ = λ t. dot (modulus_of h) entries (drop t (placed_from h.n 0 places ms (zeros 510))) in
      rw (length_from f 0 h.n)
      (from_ext _ _ 0 h.n
      (λ j low high.
      let node : j < h.n = omega arith in
      get_or_from f 0 h.n (negative h.n j) 0 (negative_below h.n j (omega arith)) ∙ ap f (zero-add (negative h.n j)) ∙ node_sum ms count symbols j node))

-- what is placed is symbols, in the room that was there
pub placed_below : (q n r : ℕ) (ss ms xs : List ℕ) → all_below q ms ≡ true → all_below q xs ≡ true → all_below q (placed_from n r ss ms xs) ≡ true
unfolding placed_from
placed_below q n r ss [] xs bm bx = bx
placed_below q n r ss (m ∷ ms) xs bm bx =
    let both = below_cons q m ms bm in
    placed_below q n (r + 1) ss ms _ both.1 (below_set q (set xs (get_or ss r 0) m) (get_or ss r 0 + n) m both.0 (below_set q xs (get_or ss r 0) m both.0 bx))

-- and the sums are, in the order of the nodes too
sums_below : (p : ℕ) → is_field p ≡ true → (ws row : List ℕ) (l : ℕ) → all_below (size_of p) ws ≡ true → all_below (size_of p) row ≡ true → all_below (size_of p) (window_sums p ws row l) ≡ true
unfolding window_sums
sums_below p v ws row l bw br =
    at_below (size_of p) _
    (λ i inside. rw (get_or_from (λ t. dot p ws (drop t row)) 0 l i 0 (omega (arith, length_from (λ t. dot p ws (drop t row)) 0 l))) (dot_below p v ws (drop (0 + i) row) bw (below_drop (size_of p) (0 + i) row br)))

pub nodes_below : (p : ℕ) → is_field p ≡ true → (ws row : List ℕ) (l : ℕ) → all_below (size_of p) ws ≡ true → all_below (size_of p) row ≡ true → all_below (size_of p) (by_node (window_sums p ws row l)) ≡ true
unfolding by_node
nodes_below p v ws row l bw br =
    let xs = window_sums p ws row l in
    let f : ℕ → ℕ = λ j. get_or xs (negative (length xs) j) 0 in
    at_below (size_of p) (by_node xs)
    (λ i inside. rw (get_or_from f 0 (length xs) i 0 (omega (arith, length_from f 0 (length xs)))) (below_get_or (size_of p) xs (size_pos p v) (sums_below p v ws row l bw br) (negative (length xs) (0 + i))))

pub length_by_node : (xs : List ℕ) → length (by_node xs) ≡ length xs
unfolding by_node
length_by_node xs = length_from _ 0 (length xs)

pub length_placed : (n r : ℕ) (ss ms xs : List ℕ) → length (placed_from n r ss ms xs) ≡ length xs
unfolding placed_from
length_placed n r ss [] xs = refl
length_placed n r ss (m ∷ ms) xs = length_placed n (r + 1) ss ms _ ∙ length-set (set xs (get_or ss r 0) m) (get_or ss r 0 + n) m ∙ length-set xs (get_or ss r 0) m
