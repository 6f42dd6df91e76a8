-- What the search for the order of a symbol finds is its order in the field, and an order up to 256 is found.
use mathlib.Core.Path.{◌≡◌, refl, sym, ap, ◌∙◌}
use mathlib.Core.Bool.{true, false}
use mathlib.Core.Logic.{⊎_elim}
use Prim.Native.Nat.{ℕ, zero, suc, ◌+◌, ◌-◌, ◌≤◌, ◌<◌}
use native.Mathlib.Omega.{arith}
use native.Mathlib.Numerals.{add-one}
use native.Mathlib.Nat.{eq-or-lt_of_le, le_refl}
use borrow.Author.Tests.{eqb-true, eqb-false, eq-eqb, ne_eqb}
use lib.Dec.{eqb}
use Rattle.lists.proofs.Cases.{by_test}
use Rattle.algebra.specs.Powers.{Order}
use Rattle.field.specs.Fields.{is_field, size_of, mul, power, order_from, order_of}
use Rattle.field.proofs.BothKinds.{arithmetic}
use Rattle.field.specs.Symbols.{Symbol}
use Rattle.field.proofs.Symbols.{symbol_below, symbol_path}
use Rattle.field.proofs.FieldOf.{field_of, number_pow}

module _ (p a : ℕ) where
  -- the n-th power is 1, and none before it from the e-th on
  pub record FirstFrom (e n : ℕ) : Type 0 where
    pub from : e ≤ n
    pub one : power p a n ≡ 1
    pub before : (i : ℕ) → e ≤ i → i < n → power p a i ≡ 1 → ⊥

  pub order_from_lem : (f e x n : ℕ) → power p a e ≡ x → 1 ≤ n → order_from f e p a x ≡ n → FirstFrom e n
  unfolding order_from power
  order_from_lem zero e x n at pos found = absurd (omega arith)
  order_from_lem (suc f) e x n at pos found =
      by_test (eqb x 1)
      (λ t. let here : e ≡ n = rw t at found in
      record {
        from = omega arith;
        one = ap (power p a) (sym here) ∙ at ∙ eqb-true x 1 t;
        before = λ i low high h. omega arith;
      })
      (λ t. let later : FirstFrom (e + 1) n =
      order_from_lem f (e + 1) (mul p a x) n (ap (power p a) (add-one e) ∙ ap (mul p a) at) pos (rw t at found) in
      record {
        from = omega (arith, later.from);
        one = later.one;
        before = λ i low high h.
            ⊎_elim
            (λ q. eqb-false x 1 t (sym at ∙ ap (power p a) q ∙ h))
            (λ l. later.before i (omega arith) high h)
            (eq-or-lt_of_le low);
      })

  -- and of f numbers from e on the search finds such an n
  pub order_finds : (f e x n : ℕ) → power p a e ≡ x → n < e + f → FirstFrom e n → order_from f e p a x ≡ n
  unfolding order_from power
  order_finds zero e x n at few first = absurd (omega (arith, first.from))
  order_finds (suc f) e x n at few first =
      by_test (eqb x 1)
      (λ t. rw t (⊎_elim (λ q. q) (λ l. absurd (first.before e (le_refl e) l (at ∙ eqb-true x 1 t))) (eq-or-lt_of_le first.from)))
      (λ t. rw t
      (⊎_elim
      (λ q. absurd (eqb-false x 1 t (sym at ∙ ap (power p a) q ∙ first.one)))
      (λ l. order_finds f (e + 1) (mul p a x) n (ap (power p a) (add-one e) ∙ ap (mul p a) at) (omega arith) (record { from = omega arith; one = first.one; before = λ i low high h. first.before i (omega arith) high h }))
      (eq-or-lt_of_le first.from)))

  -- one step of the search: it ends where x is 1, else goes on with the next power
  order_stop : (f e x : ℕ) → 0 < f → x ≡ 1 → order_from f e p a x ≡ e
  unfolding order_from
  order_stop zero e x pos h = absurd (omega arith)
  order_stop (suc f) e x pos h = rw (eq-eqb x 1 h)

  order_step : (f g e x : ℕ) → f ≡ suc g → (x ≡ 1 → ⊥) → order_from f e p a x ≡ order_from g (e + 1) p a (mul p a x)
  unfolding order_from
  order_step f g e x more h = rw (more, ne_eqb x 1 h)

  -- it does not find what lies before it
  order_past : (f e x n : ℕ) → 1 ≤ n → n < e → order_from f e p a x ≡ n → ⊥
  unfolding order_from
  order_past f e x n some past found = go f e x past found
    where
      go : (f e x : ℕ) → n < e → order_from f e p a x ≡ n → ⊥
      go zero e x past found = omega arith
      go (suc f) e x past found =
          by_test (eqb x 1)
          (λ (t : eqb x 1 ≡ true). let here : e ≡ n = rw t at found in omega arith)
          (λ (t : eqb x 1 ≡ false). go f (e + 1) (mul p a x) (omega arith) (rw t at found))

  -- at n: it is the order where the power is 1, and not where it is another
  order_at : (f n x : ℕ) → 0 < f → 1 ≤ n → eqb x 1 ≡ eqb (order_from f n p a x) n
  order_at f n x pos some =
      by_test (eqb x 1)
      (λ t. t ∙ sym (eq-eqb _ n (order_stop f n x pos (eqb-true x 1 t))))
      (λ t. t ∙ sym (ne_eqb _ n (λ found. order_past (f - 1) (n + 1) (mul p a x) n some (omega arith) (sym (order_step f (f - 1) n x (omega arith) (eqb-false x 1 t)) ∙ found))))

  -- before n it is another number
  order_before : (f e n x : ℕ) → 0 < f → e < n → x ≡ 1 → false ≡ eqb (order_from f e p a x) n
  order_before f e n x pos low one = sym (ne_eqb _ n (λ found. let here : e ≡ n = sym (order_stop f e x pos one) ∙ found in omega arith))

  -- a loop that looks for the order up to n: the search from e and x finds what the whole search finds
  pub record Searched (n e x : ℕ) : Type 0 where
    pub low : 1 ≤ e
    pub high : e ≤ n
    pub same : order_from (257 - e) e p a x ≡ order_of p a

  pub searched_start : (n : ℕ) → 1 ≤ n → Searched n 1 a
  unfolding order_of
  searched_start n some = record { low = omega arith; high = some; same = refl }

  -- x is not 1: the next power
  pub searched_step : (n e x : ℕ) → n ≤ 256 → e < n → (x ≡ 1 → ⊥) → Searched n e x → Searched n (e + 1) (mul p a x)
  searched_step n e x few more other s =
      record {
        low = omega arith;
        high = omega arith;
        same = sym (order_step (257 - e) (257 - (e + 1)) e x (omega arith) other) ∙ s.same;
      }

  -- x is 1 before n: the order is not n
  pub searched_stop : (n e x : ℕ) → n ≤ 256 → e < n → x ≡ 1 → Searched n e x → false ≡ eqb (order_of p a) n
  searched_stop n e x few more one s = order_before (257 - e) e n x (omega arith) more one ∙ ap (λ (y : ℕ). eqb y n) s.same

  -- at n: the order is n where x is 1
  pub searched_end : (n e x : ℕ) → n ≤ 256 → n ≤ e → Searched n e x → eqb x 1 ≡ eqb (order_of p a) n
  searched_end n e x few all s =
      let here : e ≡ n = omega (arith, s.high) in
      let some : 1 ≤ n = omega (arith, s.low) in
      order_at (257 - n) n x (omega arith) some
      ∙ ap (λ (y : ℕ). eqb y n) (ap (λ (y : ℕ). order_from (257 - y) y p a x) (sym here) ∙ s.same)

-- an order that is not 0 is the order in the field
pub order_is : (p : ℕ) (v : is_field p ≡ true) (a : Symbol (size_of p)) (n : ℕ) → order_of p a.0 ≡ n → 1 ≤ n → Order (field_of p v) a n
unfolding order_of power
order_is p v a n found pos =
    let first = order_from_lem p a.0 256 1 a.0 n ((arithmetic p v).mul-one a.0 (symbol_below (size_of p) a)) pos found in
    record {
      positive = pos;
      returns = symbol_path (size_of p) (number_pow p v a n ∙ first.one);
      least = λ e low high h. first.before e low high (sym (number_pow p v a e) ∙ ap (λ (s : Symbol (size_of p)). s.0) h);
    }

-- and an order in the field, up to 256, is what is found
pub order_found : (p : ℕ) (v : is_field p ≡ true) (a : Symbol (size_of p)) (n : ℕ) → Order (field_of p v) a n → n ≤ 256 → order_of p a.0 ≡ n
unfolding order_of power
order_found p v a n order few =
    order_finds p a.0 256 1 a.0 n ((arithmetic p v).mul-one a.0 (symbol_below (size_of p) a)) (omega arith)
    (record {
      from = order.positive;
      one = sym (number_pow p v a n) ∙ ap (λ (s : Symbol (size_of p)). s.0) order.returns;
      before = λ e low high h. order.least e low high (symbol_path (size_of p) (number_pow p v a e ∙ h));
    })
