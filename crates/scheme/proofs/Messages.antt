-- Messages as lists of their symbols, and schemes whose rule is given on lists.
use mathlib.Core.Path.{◌≡◌, refl, sym, ap, ◌∙◌, subst, fun_ext}
use mathlib.Core.Bool.{true}
use mathlib.Core.List.{List, [], ◌∷◌}
use Prim.Native.Nat.{ℕ, zero, suc, ◌<◌, Fin}
use native.Mathlib.Bridge.{le_prop}
use native.Mathlib.Decide.{ℕ_discrete}
use native.Mathlib.Nat.{le_of_suc-le-suc, not-suc-le-zero}
use lib.ListN.{length, get_or, set, length-set}
use lib.Seq.{ext_get_or, get_or-set_same, get_or-set_other}
use Rattle.lists.specs.Numbers.{all_below, is_in, distinct}
use Rattle.scheme.specs.Messages.{Message, symbols, Change}
use Rattle.scheme.specs.Schemes.{Scheme}

module _ {ℓ} {S : Type ℓ} where
  -- the list has k symbols
  pub length_symbols : (k : ℕ) (m : Message S k) → length (symbols k m) ≡ k
  unfolding symbols
  length_symbols zero m = refl
  length_symbols (suc k) m = ap suc (length_symbols k (λ i. m (native.Mathlib.Fin.succ i)))

  -- at place r stands symbol r
  pub get_or_symbols : (k : ℕ) (m : Message S k) (r : Fin k) (x : S) → get_or (symbols k m) r.0 x ≡ m r
  unfolding symbols
  get_or_symbols k m r x = go k m r.0 r.1
    where
      go : (k : ℕ) (m : Message S k) (i : ℕ) (l : i < k) → get_or (symbols k m) i x ≡ m (i, l)
      go zero m i l = absurd (not-suc-le-zero l)
      go (suc k) m zero l = ap m (native.Mathlib.Fin.val_path refl)
      go (suc k) m (suc i) l = go k (λ i. m (native.Mathlib.Fin.succ i)) i (le_of_suc-le-suc l) ∙ ap m (native.Mathlib.Fin.val_path refl)

  -- messages with equal symbols are equal
  pub symbols_inj : (k : ℕ) (m u : Message S k) → symbols k m ≡ symbols k u → m ≡ u
  symbols_inj k m u e = fun_ext (λ r. sym (get_or_symbols k m r (m r)) ∙ ap (λ xs. get_or xs r.0 (m r)) e ∙ get_or_symbols k u r (m r))

  -- the symbol at a place of a list
  at : (ms : List S) (i : ℕ) → i < length ms → S
  at [] i l = absurd (not-suc-le-zero l)
  at (x ∷ ms) zero l = x
  at (x ∷ ms) (suc i) l = at ms i (le_of_suc-le-suc l)

  -- the message of a list has that list
  symbols_at : (ms : List S) → symbols (length ms) (λ i. at ms i.0 i.1) ≡ ms
  unfolding symbols at
  symbols_at [] = refl
  symbols_at (x ∷ ms) = ap (λ xs. x ∷ xs) (ap (symbols (length ms)) (fun_ext (λ i. ap (at ms i.0) (le_prop _ _))) ∙ symbols_at ms)

  -- each list of k symbols is that of a message
  pub message : (k : ℕ) (ms : List S) → length ms ≡ k → (m : Message S k) × (symbols k m ≡ ms)
  message k ms e = subst (λ k. (m : Message S k) × (symbols k m ≡ ms)) e (λ i. at ms i.0 i.1, symbols_at ms)

  -- a change of symbol r puts the new symbol into the list at r
  pub symbols_change : (k : ℕ) (r : Fin k) (m u : Message S k) → Change r m u → symbols k u ≡ set (symbols k m) r.0 (u r)
  symbols_change k r m u c =
      ext_get_or (u r) (symbols k u) (set (symbols k m) r.0 (u r)) (length_symbols k u ∙ sym (length-set (symbols k m) r.0 (u r) ∙ length_symbols k m)) (λ i l. go i (rw length_symbols at l) (ℕ_discrete i r.0))
    where
      go : (i : ℕ) → i < k → Dec (i ≡ r.0) → get_or (symbols k u) i (u r) ≡ get_or (set (symbols k m) r.0 (u r)) i (u r)
      go i l (yes e) = rw e (get_or_symbols k u r (u r) ∙ sym (get_or-set_same (symbols k m) r.0 (u r) (u r) (rw length_symbols r.1)))
      go i l (no ne) = get_or_symbols k u (i, l) (u r) ∙ sym (c.elsewhere (i, l) (λ e. ne (ap (λ z. z.0) e))) ∙ sym (get_or_symbols k m (i, l) (u r)) ∙ sym (get_or-set_other (symbols k m) r.0 i (u r) (u r) ne)

-- the scheme of a rule on lists: node j holds what the rule gives the message's symbols at j, each node's contents of one kind
unfoldable pub list_scheme {ℓ κ} : (k n : ℕ) {S : Type ℓ} {C : Type κ} (enc : List S → ℕ → C) → ((c e : C) → Dec (c ≡ e)) → ((ms us : List S) (js : List ℕ) → length ms ≡ k → length us ≡ k → length js ≡ k → all_below n js ≡ true → distinct js ≡ true → ((j : Fin n) → is_in j.0 js ≡ true → enc ms j.0 ≡ enc us j.0) → ms ≡ us) → Scheme k n S (λ j. C)
list_scheme k n enc dec fixes =
    record {
      holds = λ m j. enc (symbols k m) j.0;
      same = λ j. dec;
      fixes = λ m u js size below different h. symbols_inj k m u (fixes (symbols k m) (symbols k u) js (length_symbols k m) (length_symbols k u) size below different h);
    }
