-- The price line: each change alters at least d = n − k + 1 nodes of any scheme, and some node depends on at least k · d / n symbols, rounded up.
use mathlib.Core.Path.{◌≡◌, refl, ap, ◌∙◌}
use mathlib.Core.Logic.{◌≢◌}
use mathlib.Core.Bool.{Bool, not, cond}
use Prim.Native.Nat.{ℕ, ◌+◌, ◌-◌, ◌*◌, ◌≤◌, Fin}
use native.Mathlib.Decide.{dec_le}
use native.Mathlib.Nat.{le_refl, le_trans}
use native.Mathlib.Omega.{arith}
use lib.Dec.{eqb}
use borrow.Author.Tests.{eq-eqb, ne_eqb, not-true}
use Rattle.lists.specs.Counting.{count_from}
use Rattle.lists.proofs.Count.{count_not}
use Rattle.lists.proofs.Chosen.{Chosen, choose}
use Rattle.scheme.specs.Messages.{Message, Change}
use Rattle.scheme.specs.Schemes.{Scheme, Altered, DependsOn}
use Rattle.scheme.specs.Costs.{AtLeast, ceil, Price}
use Rattle.scheme.proofs.Sums.{busiest, ceil_least}
use Rattle.scheme.proofs.Deciding.{at_least, fewer, unlike, unlike_true, unlike_false}

-- a message with the symbol x put at number r
unfoldable pub put {ℓ} : {S : Type ℓ} {k : ℕ} → Message S k → ℕ → S → Message S k
put m r x i = cond (eqb i.0 r) x (m i)

-- where another symbol stood at r, that is a change of symbol r
pub put_change {ℓ} : {S : Type ℓ} {k : ℕ} (m : Message S k) (r : Fin k) (x : S) → m r ≢ x → Change r m (put m r.0 x)
unfolding put
put_change m r x ne = record {
  there = λ e. ne (e ∙ rw (eq-eqb r.0 r.0 refl));
  elsewhere = λ i other. rw (ne_eqb i.0 r.0 (λ e. other (native.Mathlib.Fin.val_path e)));
}

module _ {ℓ κ} {k n : ℕ} {S : Type ℓ} {C : Fin n → Type κ} (s : Scheme k n S C) where
  -- the test whether node j holds different things for m and u
  abbrev pub differs : Message S k → Message S k → ℕ → Bool
  differs m u = unlike s.same (s.holds m) (s.holds u)

  -- k nodes at which the test fails fix the message
  fix : (m u : Message S k) → Chosen k n (λ j. not (differs m u j)) → m ≡ u
  fix m u b = s.fixes m u b.which b.size b.below b.different (λ j i. (unlike_false s.same (s.holds m) (s.holds u) j).0 (not-true _ (b.pass j.0 i)))

  -- two different messages differ at d nodes or more: otherwise they agree at k nodes, which fix the message
  apart : k ≤ n → (m u : Message S k) → m ≢ u → n - k + 1 ≤ count_from n 0 (differs m u)
  apart l m u ne = go (dec_le k (count_from n 0 (λ j. not (differs m u j))))
    where
      go : Dec (k ≤ count_from n 0 (λ j. not (differs m u j))) → n - k + 1 ≤ count_from n 0 (differs m u)
      go (yes h) = absurd (ne (fix m u (choose n k (λ j. not (differs m u j)) h)))
      go (no h) = omega (arith, count_not n 0 (differs m u))

  -- two different messages, however many symbols they differ at, alter at least d nodes
  pub distance : k ≤ n → (m u : Message S k) → m ≢ u → AtLeast (n - k + 1) n (Altered s m u)
  distance l m u ne = at_least n (differs m u) (Altered s m u) (n - k + 1) (λ j. (unlike_true s.same (s.holds m) (s.holds u) j).0) (apart l m u ne)

  -- each change of one symbol, in whichever message, alters at least d nodes
  writes : k ≤ n → (r : Fin k) (m u : Message S k) → Change r m u → AtLeast (n - k + 1) n (Altered s m u)
  writes l r m u c = distance l m u (λ e. c.there (ap (λ f. f r) e))

  -- of the k changes of x to y in the message of all x, some node is altered by k · d / n or more
  reads : 1 ≤ k → k ≤ n → (x y : S) → x ≢ y → (j : Fin n) × (b : ℕ) × (k * (n - k + 1) ≤ n * b) × AtLeast b k (DependsOn s j)
  reads l₁ l x y ne =
      let m : Message S k = λ i. x in
      let u : ℕ → Message S k = λ r. put m r y in
      let change : (r : Fin k) → Change r m (u r.0) = λ r. put_change m r y ne in
      let f = busiest k n (n - k + 1) (λ r. differs m (u r)) (le_trans l₁ l) (λ r h. apart l m (u r) (λ e. (change (r, h)).there (ap (λ g. g (r, h)) e))) in
      let j : Fin n = (f.0, f.1) in
      (j, _, f.2, at_least k (λ r. differs m (u r) f.0) (DependsOn s j) _ (λ r e. (m, u r.0, change r, (unlike_true s.same (s.holds m) (s.holds (u r.0)) j).0 e)) (le_refl _))

  -- a count is whole, so some node depends on at least k · d / n symbols, rounded up
  pub reads_up : 1 ≤ k → k ≤ n → (x y : S) → x ≢ y → (j : Fin n) × AtLeast (ceil (k * (n - k + 1)) n) k (DependsOn s j)
  reads_up l₁ l x y ne =
      let b = reads l₁ l x y ne in
      (b.0, fewer b.3 (ceil_least (k * (n - k + 1)) n b.1 (le_trans l₁ l) b.2))

  -- the price line
  pub price : 1 ≤ k → k ≤ n → Price s
  price l₁ l = record { writes = writes l; reads = reads l₁ l; reads_up = reads_up l₁ l }
