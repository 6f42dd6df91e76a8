-- A multiple of a row begins with that row alone.
use mathlib.Core.Path.{◌≡◌, sym, ap, ◌∙◌}
use mathlib.Core.Bool.{Bool, true, not, true≢false, not-not}
use mathlib.Core.List.{List}
use Prim.Native.Nat.{ℕ, ◌+◌, ◌-◌, ◌%◌, ◌≤◌, ◌<◌}
use native.Mathlib.Nat.{mod-lt, mod-eq_of_lt, mod-add-mod, add-mod_right, mod_self, add_assoc}
use native.Mathlib.Omega.{arith}
use borrow.Author.Tests.{eq-eqb, ne_eqb, eqb-true, eqb-false, ltb-true, ltb-false, lt-ltb, le-ltb, not-true}
use lib.Dec.{eqb, ltb}
use lib.ListN.{length, get_or}
use Rattle.lists.specs.Search.{first_false}
use Rattle.lists.proofs.All.{Distinct-at}
use Rattle.std.proofs.lemmas.Bool.{and_from, and_parts}
use Rattle.lists.proofs.Cases.{by_test}
use Rattle.lists.proofs.Search.{search_fails, search_within}
use Rattle.field.specs.Fields.{mul}
use Rattle.field.proofs.Arithmetic.{mul-zero, no_divisors}
use Rattle.field.proofs.BothKinds.{arithmetic}
use Rattle.generator.specs.declared.Header.{Header}
use Rattle.generator.specs.Records.{modulus_of, size, distance, Sound}
use Rattle.generator.specs.Generator.{entry}
use Rattle.generator.specs.Shifts.{shifts, negative, firsts}
use Rattle.generator.proofs.Bounds.{entry_below}
use Rattle.generator.proofs.Entries.{row_weight}
use Rattle.generator.proofs.Recovery.{shifts_are_places}
use Rattle.generator.proofs.Shifts.{shifts_below, firsts_at, firsts_below}
use Rattle.find_update.specs.Inner.Starts.{node_before, begins_at, row_starting}
use Rattle.find_update.proofs.Starts.{same_start}

-- x times row r
pub record Multiple (h : Header) (r x : ℕ) (ws : List ℕ) : Type 0 where
  pub long : length ws ≡ h.n
  pub row : r < h.k
  pub factor : x < size h
  pub some : x ≡ 0 → ⊥
  pub holds : (j : ℕ) → j < h.n → get_or ws j 0 ≡ mul (modulus_of h) x (entry h r j)

module _ (h : Header) (s : Sound h) where
  node_before_lem : (j : ℕ) → node_before h.n j < h.n
  unfolding node_before
  node_before_lem j = mod-lt (j + (h.n - 1)) (omega (arith, s.two))

  -- a row lies on some node, and where k is not 1 not on all
  some_node : 0 < distance h
  unfolding distance
  some_node = omega arith

  not_all : (h.k ≡ 1 → ⊥) → distance h ≤ h.n - 1
  unfolding distance
  not_all apart = omega (arith, s.some, s.fits)

  shift_below : (q : ℕ) → q < h.k → get_or (shifts h) q 0 < h.n
  shift_below = shifts_below h.n h.k s.some s.fits

  pub first_node : (q : ℕ) → q < h.k → get_or (firsts h) q 0 < h.n
  first_node = firsts_below h.n h.k s.some s.fits

  first_is : (q : ℕ) → q < h.k → get_or (firsts h) q 0 ≡ (h.n - get_or (shifts h) q 0) % h.n
  unfolding negative
  first_is = firsts_at h.n h.k s.some s.fits

  -- the base word's places of a row's first node and of the node before it
  pub first_place : (r : ℕ) → r < h.k → (get_or (firsts h) r 0 + get_or (shifts h) r 0) % h.n ≡ 0
  first_place r row =
      rw (first_is r row)
      (mod-add-mod (h.n - get_or (shifts h) r 0) h.n (get_or (shifts h) r 0)
      ∙ ap (λ (x : ℕ). x % h.n) (omega (arith, shift_below r row))
      ∙ mod_self h.n)

  place_before : (r : ℕ) → r < h.k → (node_before h.n (get_or (firsts h) r 0) + get_or (shifts h) r 0) % h.n ≡ h.n - 1
  unfolding node_before
  place_before r row =
      let t = get_or (shifts h) r 0 in
      rw (first_is r row)
      (mod-add-mod ((h.n - t) % h.n + (h.n - 1)) h.n t
      ∙ ap (λ (x : ℕ). x % h.n) (add_assoc ((h.n - t) % h.n) (h.n - 1) t)
      ∙ mod-add-mod (h.n - t) h.n (h.n - 1 + t)
      ∙ ap (λ (x : ℕ). x % h.n) (omega (arith, shift_below r row))
      ∙ add-mod_right (h.n - 1) h.n
      ∙ mod-eq_of_lt (omega (arith, s.two)))

  -- two rows that begin at one node have one shift
  rows_start : (r q : ℕ) → r < h.k → q < h.k → (get_or (firsts h) q 0 + get_or (shifts h) r 0) % h.n < distance h → distance h ≤ (node_before h.n (get_or (firsts h) q 0) + get_or (shifts h) r 0) % h.n → get_or (shifts h) q 0 ≡ get_or (shifts h) r 0
  unfolding node_before
  rows_start r q hr hq low high = same_start h.n (distance h) (get_or (shifts h) r 0) (get_or (shifts h) q 0) (shift_below r hr) (shift_below q hq) (rw (first_is q hq) at low) (rw (first_is q hq) at high)

  -- a row is not zero at its first node
  pub first_entry : (r : ℕ) → r < h.k → entry h r (get_or (firsts h) r 0) ≡ 0 → ⊥
  first_entry r row e =
      let weight = row_weight h s r (get_or (firsts h) r 0) in
      true≢false (sym (eq-eqb _ 0 e) ∙ weight ∙ ap not (lt-ltb _ (distance h) (rw (first_place r row) some_node)))

  module _ (r x : ℕ) (ws : List ℕ) (m : Multiple h r x ws) where
    -- it is zero just where the row is
    zero_where : (j : ℕ) → j < h.n → eqb (get_or ws j 0) 0 ≡ not (ltb ((j + get_or (shifts h) r 0) % h.n) (distance h))
    zero_where j node =
        let laws = arithmetic (modulus_of h) s.field in
        by_test (eqb (entry h r j) 0)
        (λ e. rw (m.holds j node) (eq-eqb _ 0 (ap (mul (modulus_of h) x) (eqb-true _ 0 e) ∙ mul-zero laws x m.factor) ∙ sym e ∙ row_weight h s r j))
        (λ e. rw (m.holds j node) (ne_eqb _ 0 (λ z. eqb-false _ 0 e (no_divisors laws x (entry h r j) m.factor (entry_below h s r j) m.some z)) ∙ sym e ∙ row_weight h s r j))

    -- it begins with its own row
    pub begins_own : begins_at h.k ws (get_or (firsts h) r 0) ≡ true
    unfolding begins_at
    begins_own =
        let first = get_or (firsts h) r 0 in
        rw m.long
        (and_from _ _
        (ap not (zero_where first (first_node r m.row)) ∙ not-not _ ∙ lt-ltb _ (distance h) (rw (first_place r m.row) some_node))
        (by_test (eqb h.k 1)
        (λ e. rw e)
        (λ e. rw e (zero_where (node_before h.n first) (node_before_lem first) ∙ ap not (le-ltb _ (distance h) (rw (place_before r m.row) (not_all (eqb-false h.k 1 e))))))))

    -- and with no other
    pub begins_only : (q : ℕ) → q < h.k → begins_at h.k ws (get_or (firsts h) q 0) ≡ true → q ≡ r
    unfolding begins_at
    begins_only q row e =
        let first = get_or (firsts h) q 0 in
        let here = (and_parts (not (eqb (get_or ws first 0) 0)) _ e).0 in
        let next = (and_parts (not (eqb (get_or ws first 0) 0)) _ e).1 in
        let low : (first + get_or (shifts h) r 0) % h.n < distance h = ltb-true _ _ (sym (not-not _) ∙ ap not (sym (zero_where first (first_node q row))) ∙ here) in
        by_test (eqb h.k 1)
        (λ t. let one = eqb-true h.k 1 t in omega (arith, m.row))
        (λ t.
        let zero : eqb (get_or ws (node_before h.n first) 0) 0 ≡ true = rw (t, m.long) at next in
        let high : distance h ≤ (node_before h.n first + get_or (shifts h) r 0) % h.n = ltb-false _ _ (not-true _ (sym (zero_where (node_before h.n first) (node_before_lem first)) ∙ zero)) in
        Distinct-at 0 (shifts h) (shifts_are_places h s).distinct q r (omega (arith, (shifts_are_places h s).size)) (omega (arith, m.row, (shifts_are_places h s).size)) (rows_start r q m.row row low high))

    -- so the least row that it begins with is its own
    pub row_is : row_starting h ws ≡ r
    unfolding row_starting
    row_is =
        let test : ℕ → Bool = λ q. not (begins_at h.k ws (get_or (firsts h) q 0)) in
        let found = search_within h.k 0 test r (omega arith) (omega (arith, m.row)) (ap not begins_own) in
        begins_only (first_false h.k 0 test) (omega (arith, m.row)) (sym (not-not _) ∙ ap not (search_fails h.k 0 test (omega (arith, m.row))))
