-- What every plain layout costs: each change alters the symbol's own node and all parity nodes; a data node depends on one symbol, a parity node on all.
use mathlib.Core.Path.{◌≡◌, refl, sym, ap, ◌∙◌, subst}
use mathlib.Core.Logic.{◌≢◌, ◌↔◌, ⊎_elim, by_cases}
use mathlib.Core.Bool.{Bool, true, false, ◌&&◌, ◌||◌, not, and-true, or-true, or-false}
use mathlib.Core.List.{◌∷◌}
use Prim.Native.Nat.{ℕ, suc, ◌+◌, ◌-◌, ◌≤◌, ◌<◌, Fin}
use native.Mathlib.Decide.{dec_lt}
use native.Mathlib.Nat.{le_refl, le_trans, zero-add}
use native.Mathlib.Omega.{arith}
use lib.Dec.{eqb, ltb}
use borrow.Author.Tests.{eqb-true, eqb-false, lt-ltb, le-ltb, not-true}
use Rattle.lists.specs.Counting.{count_from}
use Rattle.lists.specs.Numbers.{is_in, distinct}
use Rattle.lists.proofs.Cases.{by_test}
use Rattle.lists.proofs.Count.{count_ext, count_add, count_all, count_not, count_one}
use Rattle.lists.proofs.Chosen.{Chosen, choose}
use Rattle.lists.proofs.Numbers.{cons_below, is_in_cons, is_in_below, below_at, at_below}
use Rattle.scheme.specs.Messages.{Message, Change}
use Rattle.scheme.specs.Schemes.{Scheme, Altered, DependsOn}
use Rattle.scheme.specs.Costs.{AtLeast, AtMost, Exactly}
use Rattle.scheme.specs.Layouts.{HasFigures, Plain, plain_reads}
use Rattle.scheme.proofs.Deciding.{exactly, fewer, more}
use Rattle.scheme.proofs.Bounds.{put, put_change}

-- one of the numbers below k is r
count_equal : (k r : ℕ) → r < k → count_from k 0 (λ j. eqb j r) ≡ 1
count_equal k r l = count_ext k 0 (λ j. eqb j r) (λ j. eqb j r && true) (λ j a b. sym (and-true (eqb j r))) ∙ count_one k 0 r (λ j. true) (omega arith) (omega arith)

-- the nodes that a change of symbol r alters: data node r and the parity nodes
altered_by : ℕ → ℕ → ℕ → Bool
altered_by k r j = eqb j r || not (ltb j k)

altered_data : (k r j : ℕ) → j < k → altered_by k r j ≡ eqb j r
unfolding altered_by
altered_data k r j l = rw (lt-ltb j k l) (or-false (eqb j r))

altered_parity : (k r j : ℕ) → k ≤ j → altered_by k r j ≡ true
unfolding altered_by
altered_parity k r j l = rw (le-ltb j k l) (or-true (eqb j r))

-- they are n − k + 1
count_altered : (k n r : ℕ) → k ≤ n → r < k → count_from n 0 (altered_by k r) ≡ n - k + 1
count_altered k n r l h =
    let e : k + (n - k) ≡ n = omega arith in
    let below : count_from k 0 (altered_by k r) ≡ 1 = count_ext k 0 (altered_by k r) (λ j. eqb j r) (λ j a b. altered_data k r j (omega arith)) ∙ count_equal k r h in
    let above : count_from (n - k) k (altered_by k r) ≡ n - k = count_all (n - k) k (altered_by k r) (λ j a b. altered_parity k r j a) in
    omega (arith, rw (e, zero-add) at (count_add k (n - k) 0 (altered_by k r)))

module _ {ℓ κ} {k n : ℕ} {S : Type ℓ} {C : Fin n → Type κ} (s : Scheme k n S C) (small : k ≤ n) (plain : Plain s) where
  module _ (r : Fin k) (m u : Message S k) (c : Change r m u) where
    -- a change alters the data node of its symbol
    pub own_altered : (j : Fin n) → j.0 ≡ r.0 → Altered s m u j
    own_altered j e h = c.there ((plain j r e m u).0 h)

    -- and no other data node
    pub other_kept : (j : Fin n) → j.0 < k → j.0 ≢ r.0 → s.holds m j ≡ s.holds u j
    other_kept j l ne = (plain j (j.0, l) refl m u).1 (c.elsewhere (j.0, l) (λ e. ne (ap (λ z. z.0) e)))

    -- the other data nodes
    others : Chosen (k - 1) k (λ j. not (eqb j r.0))
    others = choose k (k - 1) (λ j. not (eqb j r.0)) (omega (arith, count_equal k r.0 r.1, count_not k 0 (λ j. eqb j r.0)))

    -- and every parity node: otherwise it and the other data nodes would be k nodes that hold the same for two different messages
    pub parity_altered : (j : Fin n) → k ≤ j.0 → Altered s m u j
    unfolding distinct
    parity_altered j l e =
        let b = others in
        let fresh : is_in j.0 b.which ≡ false = by_test (is_in j.0 b.which) (λ t. absurd (omega (arith, is_in_below k j.0 b.which b.below t))) (λ f. f) in
        c.there (ap (λ f. f r)
        (s.fixes m u (j.0 ∷ b.which) (ap suc b.size ∙ omega (arith, r.1))
        (cons_below n j.0 b.which j.1 (at_below n b.which (λ i h. le_trans (below_at k b.which b.below i h) small)))
        (rw fresh b.different)
        (λ i h. ⊎_elim
        (λ q. subst (λ z. s.holds m z ≡ s.holds u z) (sym (native.Mathlib.Fin.val_path q)) e)
        (λ o. other_kept i (is_in_below k i.0 b.which b.below o) (eqb-false i.0 r.0 (not-true _ (b.pass i.0 o))))
        (is_in_cons i.0 j.0 b.which h))))

    -- so it alters just these nodes
    means : (j : Fin n) → (altered_by k r.0 j.0 ≡ true) ↔ Altered s m u j
    means j = go (dec_lt j.0 k)
      where
        go : Dec (j.0 < k) → (altered_by k r.0 j.0 ≡ true) ↔ Altered s m u j
        go (yes l) = rw (altered_data k r.0 j.0 l) (
          λ t. own_altered j (eqb-true j.0 r.0 t),
          λ a. by_test (eqb j.0 r.0) (λ t. t) (λ f. absurd (a (other_kept j l (eqb-false j.0 r.0 f)))),
        )
        go (no l) = (λ t. parity_altered j (omega arith), λ a. altered_parity k r.0 j.0 (omega arith))

  -- each change of one symbol alters exactly n − k + 1 nodes
  alters : (r : Fin k) (m u : Message S k) → Change r m u → Exactly (n - k + 1) n (Altered s m u)
  alters r m u c = rw (count_altered k n r.0 small r.1) at (exactly n (altered_by k r.0) (Altered s m u) (means r m u c))

  module _ (x y : S) (two : x ≢ y) where
    -- a node that every change of a symbol alters depends on it
    depends : (j : Fin n) (r : Fin k) → ((m u : Message S k) → Change r m u → Altered s m u j) → DependsOn s j r
    depends j r each = let m : Message S k = λ i. x in let c = put_change m r y two in (m, put m r.0 y, c, each m (put m r.0 y) c)

    -- a data node depends on one symbol, its own
    pub data_reads : (j : Fin n) → j.0 < k → Exactly 1 k (DependsOn s j)
    data_reads j l = rw (count_equal k j.0 l) at (exactly k (λ r. eqb r j.0) (DependsOn s j) (λ r. (
      λ t. depends j r (λ m u c. own_altered r m u c j (sym (eqb-true r.0 j.0 t))),
      λ d. by_test (eqb r.0 j.0) (λ t. t) (λ f. absurd (d.3 (other_kept r d.0 d.1 d.2 j l (λ e. eqb-false r.0 j.0 f (sym e))))),
    )))

    -- a parity node depends on all
    pub parity_reads : (j : Fin n) → k ≤ j.0 → Exactly k k (DependsOn s j)
    parity_reads j l = rw (count_all k 0 (λ r. true) (λ r a b. refl)) at (exactly k (λ r. true) (DependsOn s j) (λ r. (λ t. depends j r (λ m u c. parity_altered r m u c j l), λ d. refl)))

    -- every node depends on at least one symbol, and on at most all, or one where there is no parity node
    bounds : 1 ≤ k → (j : Fin n) → AtLeast 1 k (DependsOn s j) × AtMost (plain_reads k n) k (DependsOn s j)
    bounds some j =
        by_cases (dec_lt j.0 k)
        (λ l. let e = data_reads j l in (e.0, more e.1 (by_test (ltb k n) (λ t. rw t some) (λ t. rw t (le_refl 1)))))
        (λ l. let e = parity_reads j (omega arith) in (fewer e.0 some, rw (lt-ltb k n (omega (arith, j.1))) e.1))

    -- and some node on so many: the first parity node, or a data node where there is none
    greatest : 1 ≤ k → (j : Fin n) × Exactly (plain_reads k n) k (DependsOn s j)
    greatest some =
        by_cases (dec_lt k n)
        (λ l. ((k, l), rw (lt-ltb k n l) (parity_reads (k, l) (le_refl k))))
        (λ l. ((0, omega arith), rw (le-ltb k n (omega arith)) (data_reads (0, omega arith) some)))

-- the figures of every plain layout
pub plain_figures {ℓ κ} : {k n : ℕ} {S : Type ℓ} {C : Fin n → Type κ} (s : Scheme k n S C) → 1 ≤ k → k ≤ n → (x y : S) → x ≢ y → Plain s → HasFigures s (n - k + 1) 1 (plain_reads k n)
plain_figures s some small x y two plain = record {
  alters = alters s small plain;
  at_least = λ j. (bounds s small plain x y two some j).0;
  least_node = ((0, omega arith), data_reads s small plain x y two (0, omega arith) some);
  at_most = λ j. (bounds s small plain x y two some j).1;
  greatest_node = greatest s small plain x y two some;
}
