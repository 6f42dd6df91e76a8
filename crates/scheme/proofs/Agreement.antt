-- Schemes and the price line as document 03 states them (Claims), and its price line proved for every such scheme.
use mathlib.Core.Path.{◌≡◌, refl, sym, ap, ◌∙◌}
use mathlib.Core.Logic.{◌≢◌, ◌↔◌}
use mathlib.Core.Bool.{Bool, true, false, ◌&&◌, ◌||◌, not, true≢false}
use mathlib.Core.List.{List, [], ◌∷◌}
use Prim.Native.Nat.{ℕ, zero, suc, ◌+◌, ◌-◌, ◌*◌, ◌≤◌, Fin}
use native.Mathlib.Nat.{le_refl, le_trans, mul-le-mul}
use lib.Dec.{eqb, ltb}
use lib.ListN.{length, set, length-set}
use borrow.Author.Tests.{lt-ltb}
use Rattle.lists.specs.Choice.{when}
use Rattle.lists.specs.Counting.{count_from}
use Rattle.lists.specs.Numbers.{all_below, is_in, distinct}
use Rattle.lists.proofs.Cases.{by_test}
use Rattle.lists.proofs.Count.{count_below}
use Rattle.lists.proofs.Numbers.{is_in_below}
use Rattle.scheme.specs.Messages.{Message, symbols}
use Rattle.scheme.specs.Schemes as Own
use Rattle.scheme.proofs.Messages.{length_symbols, message, symbols_change, list_scheme}
use Rattle.scheme.proofs.Deciding.{at_most, least_most}
use Rattle.scheme.proofs.Bounds.{distance, price}

-- document 03's definitions; `all_below`, `distinct` and `when` are those of `lists`
abbrev pub count_s : {S : Type 0} → List S → ℕ
count_s [] = 0
count_s (x ∷ xs) = suc (count_s xs)

abbrev pub is_one : ℕ → List ℕ → Bool
is_one x [] = false
is_one x (y ∷ ys) = eqb x y || is_one x ys

abbrev pub same_all : {S : Type 0} → (S → S → Bool) → List S → List S → Bool
same_all f [] [] = true
same_all f [] (y ∷ ys) = false
same_all f (x ∷ xs) [] = false
same_all f (x ∷ xs) (y ∷ ys) = f x y && same_all f xs ys

pub record Scheme (S C : Type 0) (k n : ℕ) : Type 0 where
  pub enc : List S → ℕ → C
  pub same_s : S → S → Bool
  pub same_s_is : (x y : S) → (same_s x y ≡ true) ↔ (x ≡ y)
  pub same_c : C → C → Bool
  pub same_c_is : (x y : C) → (same_c x y ≡ true) ↔ (x ≡ y)
  pub fixes : (ms us : List S) (js : List ℕ) → count_s ms ≡ k → count_s us ≡ k → length js ≡ k → all_below n js ≡ true → distinct js ≡ true → ((j : ℕ) → is_one j js ≡ true → enc ms j ≡ enc us j) → ms ≡ us

-- messages that differ at one symbol alone
abbrev pub put_s : {S : Type 0} → List S → ℕ → S → List S
put_s [] r x = []
put_s (y ∷ ys) zero x = x ∷ ys
put_s (y ∷ ys) (suc r) x = y ∷ put_s ys r x

abbrev pub altered_from : {S C : Type 0} {k n : ℕ} → ℕ → Scheme S C k n → List S → List S → ℕ
altered_from zero s ms us = 0
altered_from (suc j) s ms us = when (not (s.same_c (s.enc ms j) (s.enc us j))) 1 + altered_from j s ms us

pub record Price (S C : Type 0) (k n : ℕ) (s : Scheme S C k n) : Type 0 where
  pub alters_most : (ms : List S) (r : ℕ) (x : S) → count_s ms ≡ k → ltb r k ≡ true → same_all s.same_s ms (put_s ms r x) ≡ false → n - k + 1 ≤ altered_from n s ms (put_s ms r x)
  pub depends_most : (x y : S) → s.same_s x y ≡ false → (j : ℕ) × (rs : List ℕ) × (ltb j n ≡ true) × (all_below k rs ≡ true) × (distinct rs ≡ true) × (k * (n - k + 1) ≤ n * length rs) × ((r : ℕ) → is_one r rs ≡ true → (ms : List S) × (z : S) × (count_s ms ≡ k) × (s.same_c (s.enc ms j) (s.enc (put_s ms r z) j) ≡ false))

-- the names that document 03 has beside those of the libraries
is_one_is_in : (i : ℕ) (is : List ℕ) → is_one i is ≡ is_in i is
unfolding is_in
is_one_is_in i [] = refl
is_one_is_in i (x ∷ is) = rw (is_one_is_in i is)

module _ {S : Type 0} where
  count_s_length : (ms : List S) → count_s ms ≡ length ms
  count_s_length [] = refl
  count_s_length (m ∷ ms) = ap suc (count_s_length ms)

  put_s_set : (ms : List S) (r : ℕ) (x : S) → put_s ms r x ≡ set ms r x
  put_s_set [] r x = refl
  put_s_set (m ∷ ms) zero x = refl
  put_s_set (m ∷ ms) (suc r) x = ap (λ us. m ∷ us) (put_s_set ms r x)

  -- a message is the same as itself
  same_all_refl : (same : S → S → Bool) → ((x : S) → same x x ≡ true) → (ms : List S) → same_all same ms ms ≡ true
  same_all_refl same h [] = refl
  same_all_refl same h (m ∷ ms) = rw (h m, same_all_refl same h ms)

module _ {S C : Type 0} {k n : ℕ} (s : Scheme S C k n) where
  -- contents that are different fail the test
  differing : (c e : C) → c ≢ e → s.same_c c e ≡ false
  differing c e ne = by_test (s.same_c c e) (λ t. absurd (ne ((s.same_c_is c e).0 t))) (λ f. f)

  -- any two contents are equal or different
  decided : (c e : C) → Dec (c ≡ e)
  decided c e = by_test (s.same_c c e) (λ t. yes ((s.same_c_is c e).0 t)) (λ f. no (λ q. true≢false (sym ((s.same_c_is c e).1 q) ∙ f)))

  -- a scheme of document 03 is a scheme
  own : Own.Scheme k n S (λ j. C)
  own =
      list_scheme k n s.enc decided
      (λ ms us js a b size below different h. s.fixes ms us js (count_s_length ms ∙ a) (count_s_length us ∙ b) size below different
      (λ j i. let e : is_in j js ≡ true = rw is_one_is_in at i in h (j, is_in_below n j js below e) e))

  -- the nodes altered are those at which the contents differ
  altered_count_lem : (ms us : List S) (i : ℕ) → altered_from i s ms us ≡ count_from i 0 (λ j. not (s.same_c (s.enc ms j) (s.enc us j)))
  unfolding count_from
  altered_count_lem ms us zero = refl
  altered_count_lem ms us (suc i) = rw (altered_count_lem ms us i) (sym (count_below i (λ j. not (s.same_c (s.enc ms j) (s.enc us j)))))

  -- different messages alter at least n − k + 1 nodes
  alters : k ≤ n → (m u : Message S k) → m ≢ u → n - k + 1 ≤ altered_from n s (symbols k m) (symbols k u)
  unfolding own list_scheme
  alters l m u ne =
      rw (altered_count_lem (symbols k m) (symbols k u) n)
      (least_most (distance own l m u ne) (at_most n (λ j. not (s.same_c (s.enc (symbols k m) j) (s.enc (symbols k u) j))) (Own.Altered own m u) (λ j d. ap not (differing _ _ d))))

  -- a node that depends on symbol r does so by document 03's words
  depends : (j : Fin n) (r : Fin k) → Own.DependsOn own j r → (ms : List S) × (z : S) × (count_s ms ≡ k) × (s.same_c (s.enc ms j.0) (s.enc (put_s ms r.0 z) j.0) ≡ false)
  unfolding own list_scheme
  depends j r d =
      let ms = symbols k d.0 in
      (ms, d.1 r, count_s_length ms ∙ length_symbols k d.0, rw (put_s_set ms r.0 (d.1 r), ← symbols_change k r d.0 d.1 d.2) (differing _ _ d.3))

-- the price line, as document 03 demands it
pub given_price : (S C : Type 0) (k n : ℕ) (s : Scheme S C k n) → 1 ≤ k → k ≤ n → Price S C k n s
given_price S C k n s some small = record {
  alters_most = λ ms r x size l diff.
      let m = message k ms (sym (count_s_length ms) ∙ size) in
      let u = message k (put_s ms r x) (ap length (put_s_set ms r x) ∙ length-set ms r x ∙ sym (count_s_length ms) ∙ size) in
      rw (m.1, u.1) at
      (alters s small m.0 u.0
      (λ e. true≢false (sym (same_all_refl s.same_s (λ z. (s.same_s_is z z).1 refl) ms) ∙ ap (same_all s.same_s ms) (sym m.1 ∙ ap (symbols k) e ∙ u.1) ∙ diff)));
  depends_most = λ x y diff.
      let f = (price (own s) some small).reads x y (λ e. true≢false (sym ((s.same_s_is x y).1 e) ∙ diff)) in
      let a = f.3 in
      let symbol : (r : ℕ) → is_one r a.which ≡ true → is_in r a.which ≡ true = λ r i. rw is_one_is_in at i in (
        f.0.0,
        a.which,
        lt-ltb f.0.0 n f.0.1,
        a.below,
        a.different,
        le_trans f.2 (mul-le-mul (le_refl n) a.many),
        λ r i. let p : Fin k = (r, is_in_below k r a.which a.below (symbol r i)) in depends s f.0 p (a.each p (symbol r i)),
      );
}
