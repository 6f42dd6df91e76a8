-- Changes of several symbols: where each change of one alters at most w nodes, a change of c alters at most c · w.
use mathlib.Core.Path.{◌≡◌, refl, sym, ap, ◌∙◌, fun_ext}
use mathlib.Core.Logic.{◌≢◌}
use mathlib.Core.Bool.{Bool, true, false, cond}
use mathlib.Core.List.{List, [], ◌∷◌}
use Prim.Native.Nat.{ℕ, zero, suc, ◌+◌, ◌-◌, ◌*◌, ◌≤◌, ◌<◌, zero-le, min, Fin}
use native.Mathlib.Decide.{ℕ_discrete, dec_lt}
use native.Mathlib.Nat.{le_refl, le_of_eq, le_trans, le-min, mul-le-mul_right, add-mul, zero-mul, one-mul, not-suc-le-zero}
use native.Mathlib.Omega.{arith}
use lib.Dec.{ltb}
use lib.ListN.{length}
use borrow.Author.Tests.{lt-ltb, le-ltb, eq-eqb}
use Rattle.lists.specs.Choice.{when}
use Rattle.lists.specs.Counting.{count_from}
use Rattle.lists.specs.Numbers.{all_below, is_in}
use Rattle.lists.proofs.Count.{count_below, count_not}
use Rattle.lists.proofs.Numbers.{is_in_below}
use Rattle.scheme.specs.Messages.{Message, Change}
use Rattle.scheme.specs.Inner.Messages.{Changed}
use Rattle.scheme.specs.Schemes.{Scheme, Altered}
use Rattle.scheme.specs.Costs.{AtLeast, AtMost}
use Rattle.scheme.proofs.Deciding.{more, at_most, count_at_most, unlike, unlike_true, unlike_false, unlike_self, unlike_triangle}
use Rattle.scheme.proofs.Bounds.{differs, distance}

module _ {ℓ} {S : Type ℓ} {k : ℕ} (m u : Message S k) where
  -- u's symbols below i, m's from i on
  mix : ℕ → Message S k
  mix i r = cond (ltb r.0 i) (u r) (m r)

  -- below i it is u's
  mix_new : (i : ℕ) (r : Fin k) → r.0 < i → mix i r ≡ u r
  unfolding mix
  mix_new i r l = rw (lt-ltb r.0 i l)

  -- from i on it is m's
  mix_old : (i : ℕ) (r : Fin k) → i ≤ r.0 → mix i r ≡ m r
  unfolding mix
  mix_old i r l = rw (le-ltb r.0 i l)

  -- the next mix differs at i alone
  mix_other : (i : ℕ) (r : Fin k) → r.0 ≢ i → mix i r ≡ mix (suc i) r
  mix_other i r ne = go (dec_lt r.0 i)
    where
      go : Dec (r.0 < i) → mix i r ≡ mix (suc i) r
      go (yes l) = mix_new i r l ∙ sym (mix_new (suc i) r (omega arith))
      go (no l) = mix_old i r (omega arith) ∙ sym (mix_old (suc i) r (omega arith))

  -- where m and u differ at i, the next mix is a change of symbol i
  mix_change : (i : Fin k) → Changed m u i → Change i (mix i.0) (mix (suc i.0))
  mix_change i ne =
      record {
        there = λ e. ne (sym (mix_old i.0 i (le_refl _)) ∙ e ∙ mix_new (suc i.0) i (le_refl _));
        elsewhere = λ r other. mix_other i.0 r (λ e. other (native.Mathlib.Fin.val_path e));
      }

  -- where they do not, the next mix is the same message
  mix_same : (i : Fin k) → m i ≡ u i → mix i.0 ≡ mix (suc i.0)
  mix_same i e = fun_ext (λ r. go r (ℕ_discrete r.0 i.0))
    where
      go : (r : Fin k) → Dec (r.0 ≡ i.0) → mix i.0 r ≡ mix (suc i.0) r
      go r (yes q) = mix_old i.0 r (le_of_eq (sym q)) ∙ ap m (native.Mathlib.Fin.val_path q) ∙ e ∙ ap u (native.Mathlib.Fin.val_path (sym q)) ∙ sym (mix_new (suc i.0) r (omega arith))
      go r (no ne) = mix_other i.0 r ne

-- a change of one symbol or more, of c at least, alters at least n − k + 1 nodes
pub several {ℓ κ} : {k n : ℕ} {S : Type ℓ} {C : Fin n → Type κ} (s : Scheme k n S C) → k ≤ n → (c : ℕ) → 1 ≤ c → (m u : Message S k) → AtLeast c k (Changed m u) → AtLeast (n - k + 1) n (Altered s m u)
unfolding is_in
several {k = k} s l c some m u h = distance s l m u (λ e. none h.which (le_trans some h.many) h.below (λ r i. h.each r i (ap (λ f. f r) e)))
  where
    none : (rs : List ℕ) → 1 ≤ length rs → all_below k rs ≡ true → ((r : Fin k) → is_in r.0 rs ≡ true → ⊥) → ⊥
    none [] l b h = not-suc-le-zero l
    none (r ∷ rs) l b h = let i : is_in r (r ∷ rs) ≡ true = rw (eq-eqb r r refl) in h (r, is_in_below k r (r ∷ rs) b i) i

module _ {ℓ κ} {k n : ℕ} {S : Type ℓ} {C : Fin n → Type κ} (s : Scheme k n S C) (dec : (x y : S) → Dec (x ≡ y)) (w : ℕ) (each : (r : Fin k) (m u : Message S k) → Change r m u → AtMost w n (Altered s m u)) where
  -- the test whether two messages differ at a symbol
  changed : Message S k → Message S k → ℕ → Bool
  changed m u = unlike (λ r. dec) m u

  -- one step from mix to mix alters at most w nodes, and none where the symbol stays
  step : (m u : Message S k) (i : Fin k) → count_from n 0 (differs s (mix m u i.0) (mix m u (suc i.0))) ≤ when (changed m u i.0) 1 * w
  unfolding changed
  step m u i = go (changed m u i.0) refl
    where
      go : (t : Bool) → changed m u i.0 ≡ t → count_from n 0 (differs s (mix m u i.0) (mix m u (suc i.0))) ≤ when t 1 * w
      go true e = rw (one-mul w) (count_at_most n _ (Altered s (mix m u i.0) (mix m u (suc i.0))) w (λ j. (unlike_true s.same _ _ j).0) (each i _ _ (mix_change m u i ((unlike_true (λ r. dec) m u i).0 e))))
      go false e = rw (zero-mul w) (le_of_eq (ap (λ v. count_from n 0 (differs s (mix m u i.0) v)) (sym (mix_same m u i ((unlike_false (λ r. dec) m u i).0 e))) ∙ unlike_self s.same (s.holds (mix m u i.0))))

  -- so from m to a mix at most w for each symbol changed below i
  chain : (m u : Message S k) (i : ℕ) → i ≤ k → count_from n 0 (differs s m (mix m u i)) ≤ count_from i 0 (changed m u) * w
  unfolding count_from
  chain m u zero l = rw (zero-mul w) (le_of_eq (ap (λ v. count_from n 0 (differs s m v)) (fun_ext (λ r. mix_old m u 0 r zero-le)) ∙ unlike_self s.same (s.holds m)))
  chain m u (suc i) l =
      rw (count_below i (changed m u), add-mul)
      (omega (arith, unlike_triangle s.same (s.holds m) (s.holds (mix m u i)) (s.holds (mix m u (suc i))), chain m u i (omega arith), step m u (i, l)))

  -- a change of at most c symbols alters at most c · w nodes, and at most n
  pub spread : (c : ℕ) (m u : Message S k) → AtMost c k (Changed m u) → AtMost (min n (c * w)) n (Altered s m u)
  unfolding changed
  spread c m u h =
      let all : mix m u k ≡ u = fun_ext (λ r. mix_new m u k r r.1) in
      let few : count_from k 0 (changed m u) ≤ c = count_at_most k _ (Changed m u) c (λ r. (unlike_true (λ r. dec) m u r).0) h in
      more (at_most n (differs s m u) (Altered s m u) (λ j. (unlike_true s.same (s.holds m) (s.holds u) j).1))
      (le-min (omega (arith, count_not n 0 (differs s m u))) (le_trans (rw all at (chain m u k (le_refl k))) (mul-le-mul_right w few)))
