-- What the answer means.
use mathlib.Core.Path.{◌≡◌, sym, ap, ap₂, ◌∙◌}
use mathlib.Core.Logic.{◌⊎◌, inl, inr, ⊎_elim}
use mathlib.Core.Bool.{true, false, not, not-not}
use mathlib.Core.List.{List}
use Prim.Native.Nat.{ℕ, ◌≤◌, ◌<◌}
use native.Mathlib.Nat.{zero-add}
use native.Mathlib.Omega.{arith}
use borrow.Author.Tests.{eq-eqb, eqb-true, eqb-false, ltb-true, ltb-false, ne_eqb}
use lib.Dec.{eqb, ltb}
use Rattle.lists.specs.Counting.{differ}
use Rattle.lists.specs.Search.{first_false}
use Rattle.lists.proofs.Cases.{by_test}
use Rattle.lists.proofs.Differ.{differ_same, same_lists}
use Rattle.lists.proofs.Search.{search_high, search_fails, search_within}
use Rattle.generator.specs.declared.Header.{Header}
use Rattle.generator.specs.Records.{size, Sound}
use Rattle.find_update.specs.declared.Finding.TheVariants.{Unchanged, Added, NoSingleUpdate}
use Rattle.refusals.specs.Accepted.{IsLane}
use Rattle.find_update.specs.Finding.{taken_away, leads, amount_at, symbol_of, finding_of, Finds}
use Rattle.find_update.proofs.Single.{length_added, one_addition, nothing_added, taken_back}
use Rattle.blocks.specs.Blocks.{word_added}

module _ (h : Header) (s : Sound h) (us vs : List ℕ) (before : IsLane h us) (after : IsLane h vs) where
  -- the test says that the addition gives the second lane
  leads_is : (r x : ℕ) → leads h us vs r x ≡ true → word_added h r x us ≡ vs
  unfolding leads
  leads_is r x e = same_lists (word_added h r x us) vs (length_added h s us before r x ∙ sym after.long) (eqb-true _ 0 e)

  is_leads : (r x : ℕ) → word_added h r x us ≡ vs → leads h us vs r x ≡ true
  unfolding leads
  is_leads r x e = eq-eqb _ 0 (ap (λ (l : List ℕ). differ l vs) e ∙ differ_same vs)

  -- an amount that leads to the second lane is found, or a lesser one
  amount_found : (r x : ℕ) → x < size h → word_added h r x us ≡ vs → amount_at h us vs r < size h
  unfolding amount_at
  amount_found r x low e = omega (arith, search_within (size h) 0 (λ x. not (leads h us vs r x)) x (omega arith) (omega arith) (ap not (is_leads r x e)))

  -- and what is found leads there
  amount_leads : (r : ℕ) → amount_at h us vs r < size h → word_added h r (amount_at h us vs r) us ≡ vs
  unfolding amount_at
  amount_leads r low = leads_is r _ (sym (not-not _) ∙ ap not (search_fails (size h) 0 (λ x. not (leads h us vs r x)) (omega arith)))

  amount_high : (r : ℕ) → amount_at h us vs r ≤ size h
  unfolding amount_at
  amount_high r = rw zero-add at (search_high (size h) 0 (λ x. not (leads h us vs r x)))

  -- likewise for the symbol
  symbol_found : (r x : ℕ) → r < h.k → x < size h → word_added h r x us ≡ vs → symbol_of h us vs < h.k
  unfolding symbol_of
  symbol_found r x row low e =
      omega (arith, search_within h.k 0 (λ r. eqb (amount_at h us vs r) (size h)) r (omega arith) (omega arith) (ne_eqb _ (size h) (λ z. omega (arith, amount_found r x low e))))

  symbol_amount : symbol_of h us vs < h.k → amount_at h us vs (symbol_of h us vs) < size h
  unfolding symbol_of
  symbol_amount low =
      let apart = eqb-false _ (size h) (search_fails h.k 0 (λ r. eqb (amount_at h us vs r) (size h)) (omega arith)) in
      omega (arith, amount_high (first_false h.k 0 (λ r. eqb (amount_at h us vs r) (size h))))

  differs : (us ≡ vs → ⊥) → eqb (differ us vs) 0 ≡ false
  differs n = ne_eqb (differ us vs) 0 (λ z. n (same_lists us vs (before.long ∙ sym after.long) z))

  -- the three answers, each with when it is given
  abbrev Answer : Type 0
  Answer =
      ((us ≡ vs) × (finding_of h us vs ≡ Unchanged))
      ⊎ (((us ≡ vs → ⊥) × (symbol_of h us vs < h.k) × (finding_of h us vs ≡ Added (symbol_of h us vs) (amount_at h us vs (symbol_of h us vs))))
      ⊎ ((us ≡ vs → ⊥) × (h.k ≤ symbol_of h us vs) × (finding_of h us vs ≡ NoSingleUpdate)))

  answer : Answer
  unfolding finding_of
  answer =
      by_test (eqb (differ us vs) 0)
      (λ e. inl (same_lists us vs (before.long ∙ sym after.long) (eqb-true _ 0 e), rw e))
      (λ e.
      let apart : us ≡ vs → ⊥ = λ z. eqb-false _ 0 e (ap (differ us) (sym z) ∙ differ_same us) in
      by_test (ltb (symbol_of h us vs) h.k)
      (λ l. inr (inl (apart, ltb-true _ _ l, rw (e, l))))
      (λ l. inr (inr (apart, ltb-false _ _ l, rw (e, l)))))

  -- the answer in words
  pub finds : Finds h us vs
  finds =
      record {
        unchanged = (λ e. ⊎_elim (λ a. a.0) (⊎_elim (λ a. absurd (let z : ◌≡◌ {A = ℕ} 0 1 = cc (e, a.2) in omega arith)) (λ a. absurd (let z : ◌≡◌ {A = ℕ} 0 1 = cc (e, a.2) in omega arith))) answer, is_unchanged);
        none = (λ e. ⊎_elim (λ a. absurd (let z : ◌≡◌ {A = ℕ} 0 1 = cc (e, a.1) in omega arith)) (⊎_elim (λ a. absurd (let z : ◌≡◌ {A = ℕ} 0 1 = cc (e, a.2) in omega arith)) (λ a. (a.0, λ r x row low l. omega (arith, symbol_found r x row low l, a.1)))) answer, is_none);
        there = leads_there;
        back = λ r x e. let (row, low, l) = leads_there r x e in ap (taken_away h r x) (sym l) ∙ taken_back h s us before r x low;
        only = λ r x q y e row low l. only_one r x q y e row low l;
      }
    where
      is_unchanged : us ≡ vs → finding_of h us vs ≡ Unchanged
      is_unchanged e = ⊎_elim (λ a. a.1) (⊎_elim (λ a. absurd (a.0 e)) (λ a. absurd (a.0 e))) answer

      is_none : (us ≡ vs → ⊥) × ((r x : ℕ) → r < h.k → x < size h → word_added h r x us ≡ vs → ⊥) → finding_of h us vs ≡ NoSingleUpdate
      is_none (apart, never) =
          ⊎_elim (λ a. absurd (apart a.0))
          (⊎_elim (λ a. absurd (never (symbol_of h us vs) (amount_at h us vs (symbol_of h us vs)) a.1 (symbol_amount a.1) (amount_leads (symbol_of h us vs) (symbol_amount a.1)))) (λ a. a.2))
          answer

      found : (r x : ℕ) → finding_of h us vs ≡ Added r x → (us ≡ vs → ⊥) × (symbol_of h us vs < h.k) × (r ≡ symbol_of h us vs) × (x ≡ amount_at h us vs (symbol_of h us vs))
      found r x e =
          ⊎_elim (λ a. absurd (let z : ◌≡◌ {A = ℕ} 0 1 = cc (e, a.1) in omega arith))
          (⊎_elim (λ a. (a.0, a.1, cc (e, a.2), cc (e, a.2))) (λ a. absurd (let z : ◌≡◌ {A = ℕ} 0 1 = cc (e, a.2) in omega arith)))
          answer

      leads_there : (r x : ℕ) → finding_of h us vs ≡ Added r x → (r < h.k) × (x < size h) × (word_added h r x us ≡ vs)
      leads_there r x e =
          let (apart, row, er, ex) = found r x e in
          rw (er, ex) (row, symbol_amount row, amount_leads (symbol_of h us vs) (symbol_amount row))

      only_one : (r x q y : ℕ) → finding_of h us vs ≡ Added r x → q < h.k → y < size h → word_added h q y us ≡ vs → (q ≡ r) × (y ≡ x)
      only_one r x q y e row low l =
          let (hr, hx, lr) = leads_there r x e in
          let apart = (found r x e).0 in
          one_addition h s us before q y r x row hr low hx (λ z. apart (sym (nothing_added h s us before q) ∙ ap (λ (a : ℕ). word_added h q a us) (sym z) ∙ l)) (l ∙ sym lr)

  -- where something leads from the first lane to the second, it is found
  pub finding_added : (us ≡ vs → ⊥) → (r x : ℕ) → r < h.k → x < size h → word_added h r x us ≡ vs → finding_of h us vs ≡ Added r x
  finding_added apart r x row low l =
      ⊎_elim (λ a. absurd (apart a.0))
      (⊎_elim
      (λ a. let (same, amount) = finds.only _ _ r x a.2 row low l in a.2 ∙ ap₂ Added (sym same) (sym amount))
      (λ a. absurd (omega (arith, symbol_found r x row low l, a.1))))
      answer
