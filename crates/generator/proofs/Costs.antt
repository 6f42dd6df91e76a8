-- How many symbols a node depends on, and what that means.
use mathlib.Core.Path.{◌≡◌, sym, ap, ◌∙◌}
use mathlib.Core.Logic.{◌↔◌, ◌⊎◌}
use mathlib.Core.Bool.{true, false, not, true≢false, not-not}
use mathlib.Core.List.{List}
use Prim.Native.Nat.{ℕ, ◌+◌, ◌*◌, ◌%◌, ◌<◌}
use native.Mathlib.Omega.{arith}
use native.Mathlib.Nat.{le_of_eq, suc-ne-zero}
use borrow.Author.Tests.{eq-eqb, eqb-true, eqb-false, not-true}
use lib.Dec.{eqb, ltb}
use lib.ListN.{get_or, set, replicate, length-replicate, get_or-replicate}
use lib.Seq.{set-get_or}
use Rattle.lists.specs.Counting.{count_from}
use Rattle.lists.proofs.All.{All-replicate}
use Rattle.lists.proofs.Cases.{by_test}
use Rattle.lists.proofs.Count.{count_ext}
use Rattle.lists.proofs.Numbers.{all_below_lem}
use Rattle.field.proofs.Bounds.{one_below}
use Rattle.field.proofs.FieldOf.{size_pos}
use Rattle.scheme.specs.Sums.{sum}
use Rattle.scheme.proofs.Sums.{sum_ext, sum_const, count_swap, busiest, floor_is_ceil, upper_column}
use Rattle.generator.specs.declared.Header.{Header}
use Rattle.generator.specs.Records.{modulus_of, size, distance, low_reads, high_reads, Sound}
use Rattle.generator.specs.Shifts.{shifts, negative, firsts}
use Rattle.generator.specs.Generator.{entry}
use Rattle.generator.specs.Codewords.{node_of}
use Rattle.generator.specs.Claims.{is_message, reads}
use Rattle.generator.proofs.Sound.{weight_fits}
use Rattle.generator.proofs.Windows.{row_nodes, row_window}
use Rattle.generator.proofs.Shifts.{shifts_balance, shifts_at, firsts_below}
use Rattle.generator.proofs.Entries.{row_weight}
use Rattle.generator.proofs.Recovery.{message_is}
use Rattle.generator.proofs.Changes.{altered_entry}

module _ (h : Header) (s : Sound h) where
  -- an entry that is not zero, by its place
  inside : (r j : ℕ) → not (eqb (entry h r j) 0) ≡ ltb ((j + get_or (shifts h) r 0) % h.n) (distance h)
  inside r j = ap not (row_weight h s r j) ∙ not-not (ltb ((j + get_or (shifts h) r 0) % h.n) (distance h))

  -- row r lies on d nodes
  pub row_count : (r : ℕ) → count_from h.n 0 (λ j. not (eqb (entry h r j) 0)) ≡ distance h
  row_count r =
      count_ext h.n 0 _ (λ j. ltb ((j + get_or (shifts h) r 0) % h.n) (distance h)) (λ j l u. inside r j)
      ∙ row_nodes h.n (distance h) (get_or (shifts h) r 0) (omega (arith, s.two)) (weight_fits h s)

  -- the d nodes from the first node on, going round
  pub begins : (r j : ℕ) → r < h.k → j < h.n → (eqb (entry h r j) 0 ≡ false) ↔ ((x : ℕ) × (x < distance h) × ((get_or (firsts h) r 0 + x) % h.n ≡ j))
  begins r j row node =
      let low = firsts_below h.n h.k s.some s.fits r row in
      let window = row_window h.n (distance h) (get_or (firsts h) r 0) j (weight_fits h s) node (omega arith) in
      let test : not (eqb (entry h r j) 0) ≡ ltb ((j + negative h.n (get_or (firsts h) r 0)) % h.n) (distance h) =
      inside r j ∙ ap (λ (t : ℕ). ltb ((j + t) % h.n) (distance h)) (shifts_at h.n h.k s.some s.fits r row) in
      (λ e. window.0 (sym test ∙ ap not e), λ b. not-true _ (test ∙ window.1 b))

  -- node j lies in k·d / n rows, rounded down or up
  pub depends : (j : ℕ) → j < h.n → (reads h j ≡ low_reads h) ⊎ (reads h j ≡ high_reads h)
  unfolding reads low_reads high_reads distance
  depends j node =
      rw (count_ext h.k 0 (λ r. not (eqb (entry h r j) 0)) (λ r. ltb ((j + get_or (shifts h) r 0) % h.n) (distance h)) (λ r l u. inside r j))
      (shifts_balance h.n h.k s.some s.fits j node)

  -- the two are equal exactly if n divides k·d
  pub whole : (low_reads h ≡ high_reads h) ↔ (h.k * distance h % h.n ≡ 0)
  unfolding low_reads high_reads
  whole = floor_is_ceil (h.k * distance h) h.n (omega (arith, s.two))

  -- the rows that nodes lie in, and the nodes that rows lie on, are as many
  pub total : sum h.n (reads h) ≡ h.k * distance h
  unfolding reads
  total =
      sym (count_swap h.k h.n (λ r j. not (eqb (entry h r j) 0)))
      ∙ sum_ext h.k _ (λ r. distance h) (λ r row. row_count r)
      ∙ sum_const h.k (distance h)

  -- so some node lies in as many as k·d / n rounded up
  pub upper_node : (j : ℕ) × (j < h.n) × (reads h j ≡ high_reads h)
  unfolding reads low_reads high_reads
  upper_node =
      let (j, node, many) = busiest h.k h.n (distance h) (λ r i. not (eqb (entry h r i) 0)) (omega (arith, s.two)) (λ r row. le_of_eq (sym (row_count r))) in
      (j, node, upper_column (h.k * distance h) h.n _ (omega (arith, s.two)) (depends j node) many)

  -- the message of zeros
  pub zero_message : is_message h (replicate h.k 0) ≡ true
  zero_message =
      message_is h (replicate h.k 0) (length-replicate h.k 0)
      (all_below_lem (size h) (replicate h.k 0) (All-replicate (λ x. x < size h) h.k 0 (size_pos (modulus_of h) s.field)))

  -- node j depends on symbol r: some change of that symbol alone alters it
  abbrev pub DependsNumber : ℕ → ℕ → Type 0
  DependsNumber r j = (ms : List ℕ) × (z : ℕ) × (is_message h ms ≡ true) × (z < size h) × (eqb (node_of h ms j) (node_of h (set ms r z) j) ≡ false)

  -- it does so just where the entry is not zero
  pub depends_means : (r j : ℕ) → r < h.k → j < h.n → (eqb (entry h r j) 0 ≡ false) ↔ DependsNumber r j
  depends_means r j row node = (to, back)
    where
      to : eqb (entry h r j) 0 ≡ false → DependsNumber r j
      to e = (
        replicate h.k 0,
        1,
        zero_message,
        one_below (modulus_of h) s.field,
        altered_entry h s (replicate h.k 0) r 1 zero_message row (one_below (modulus_of h) s.field) (λ q. suc-ne-zero 0 (q ∙ get_or-replicate h.k r 0 0 row)) j ∙ e,
      )

      back : DependsNumber r j → eqb (entry h r j) 0 ≡ false
      back (ms, z, m, low, e) =
          by_test (eqb z (get_or ms r 0))
          (λ t. absurd (true≢false (sym (eq-eqb (node_of h ms j) (node_of h (set ms r z) j) (ap (λ (l : List ℕ). node_of h l j) (sym (ap (set ms r) (eqb-true z (get_or ms r 0) t) ∙ set-get_or ms r 0)))) ∙ e)))
          (λ t. sym (altered_entry h s ms r z m row low (eqb-false z (get_or ms r 0) t) j) ∙ e)
