-- A single change at node j makes a lane a word exactly if the check sums go up by root^j: then the change is the first of them over root^j.
use mathlib.Core.Path.{◌≡◌, refl, sym, ap, ◌∙◌}
use mathlib.Core.Bool.{true}
use mathlib.Core.List.{List}
use Prim.Native.Nat.{ℕ, zero, suc, ◌+◌, ◌-◌, ◌%◌, ◌≤◌, ◌<◌}
use native.Mathlib.Nat.{zero-add}
use native.Mathlib.Omega.{arith}
use lib.ListN.{get_or, set}
use Rattle.lists.proofs.Numbers.{below_at}
use Rattle.field.specs.Fields.{add, sub, mul}
use Rattle.field.proofs.Arithmetic.{Arithmetic}
use Rattle.field.proofs.BothKinds.{arithmetic}
use Rattle.field.proofs.Bounds.{power_below}
use Rattle.generator.specs.declared.Header.{Header}
use Rattle.generator.specs.Records.{modulus_of, size, Sound}
use Rattle.generator.specs.Codewords.{check_from, is_word}
use Rattle.generator.proofs.Words.{checks_zero, zero_checks}
use Rattle.generator.proofs.Bounds.{check_from_below}
use Rattle.refusals.specs.Accepted.{IsLane}
use Rattle.mends.proofs.Sums.{factor, factor_below, check_change, sub-zero, zero-sub, sub_back}
use Rattle.mends.proofs.Powers.{root_power, root_back, factor_one, factor_next}

module _ (h : Header) (s : Sound h) where
  abbrev p : ℕ
  p = modulus_of h

  abbrev laws : Arithmetic (size h) (add p) (sub p) (mul p)
  laws = arithmetic p s.field

  abbrev checks : ℕ
  checks = h.n - h.k

  pub root_below : (e : ℕ) → root_power h s e < size h
  root_below e = power_below p s.field e s.root_below

  module _ (ws : List ℕ) (lane : IsLane h ws) where
    -- check sum e
    abbrev pub sum_at : ℕ → ℕ
    sum_at e = check_from h e 0 ws

    pub sum_below : (e : ℕ) → sum_at e < size h
    sum_below e = check_from_below h s e 0 ws lane.symbols

    module _ (j : ℕ) (node : j < h.n) where
      abbrev held : ℕ
      held = get_or ws j 0

      held_below : held < size h
      held_below = below_at (size h) ws lane.symbols j (omega (arith, lane.long))

      -- root^j and its inverse
      abbrev c : ℕ
      c = root_power h s j

      abbrev back : ℕ
      back = root_power h s ((h.n - j) % h.n)

      -- check sum e after y is taken away at node j
      changed : (e y : ℕ) → y < size h → check_from h e 0 (set ws j (sub p held y)) ≡ sub p (sum_at e) (mul p y (factor h s e j))
      changed e y hy = rw zero-add at (check_change h s e y hy 0 ws lane.symbols j (omega (arith, lane.long)))

      -- the lane is then a word exactly if every check sum is y times the factor
      pub word_where : (y : ℕ) → y < size h → ((e : ℕ) → 0 < e → e ≤ checks → sum_at e ≡ mul p y (factor h s e j)) → is_word h (set ws j (sub p held y)) ≡ true
      unfolding is_word
      word_where y hy same =
          zero_checks checks h (set ws j (sub p held y))
          (λ e pos low. changed e y hy ∙ zero-sub h s (sum_at e) (mul p y (factor h s e j)) (sum_below e) (laws.mul_below y _ hy (factor_below h s e j)) (same e pos low))

      where_word : (y : ℕ) → y < size h → is_word h (set ws j (sub p held y)) ≡ true → (e : ℕ) → 0 < e → e ≤ checks → sum_at e ≡ mul p y (factor h s e j)
      unfolding is_word
      where_word y hy word e pos low =
          sub-zero h s (sum_at e) (mul p y (factor h s e j)) (sum_below e) (laws.mul_below y _ hy (factor_below h s e j))
          (sym (changed e y hy) ∙ checks_zero checks h (set ws j (sub p held y)) word e pos low)

      -- the check sums go up by root^j
      abbrev pub GoesUp : Type 0
      GoesUp = (e : ℕ) → 0 < e → e < checks → sum_at (e + 1) ≡ mul p c (sum_at e)

      -- what is taken away: the first check sum over root^j
      abbrev pub amount : ℕ
      amount = mul p (sum_at 1) back

      pub amount_below : amount < size h
      amount_below = laws.mul_below _ _ (sum_below 1) (root_below _)

      -- times root^j it is the first check sum
      amount_first : mul p amount (factor h s 1 j) ≡ sum_at 1
      amount_first =
          ap (mul p amount) (factor_one h s j node)
          ∙ laws.mul_assoc (sum_at 1) back c (sum_below 1) (root_below _) (root_below j)
          ∙ ap (mul p (sum_at 1)) (laws.mul_comm back c (root_below _) (root_below j) ∙ root_back h s j node)
          ∙ laws.mul-one (sum_at 1) (sum_below 1)

      -- y·f goes up as f does
      term_next : (y e : ℕ) → y < size h → mul p y (factor h s (e + 1) j) ≡ mul p c (mul p y (factor h s e j))
      term_next y e hy =
          let f = factor h s e j in
          let hf = factor_below h s e j in
          ap (mul p y) (factor_next h s e j)
          ∙ sym (laws.mul_assoc y c f hy (root_below j) hf)
          ∙ ap (λ (x : ℕ). mul p x f) (laws.mul_comm y c hy (root_below j))
          ∙ laws.mul_assoc c y f (root_below j) hy hf

      -- sums that go up are multiples of the factors
      up_multiple : GoesUp → (e : ℕ) → suc e ≤ checks → sum_at (suc e) ≡ mul p amount (factor h s (suc e) j)
      up_multiple up zero low = sym amount_first
      up_multiple up (suc e) low =
          let next : suc e + 1 ≡ suc (suc e) = omega arith in
          rw next at (up (suc e) (omega arith) (omega arith))
          ∙ ap (mul p c) (up_multiple up e (omega arith))
          ∙ sym (rw next at (term_next amount (suc e) amount_below))

      -- so the amount mends the lane
      pub up_word : GoesUp → is_word h (set ws j (sub p held amount)) ≡ true
      up_word up = word_where amount amount_below (λ e pos low. let (d, is) = before e pos in rw is (up_multiple up d (omega arith)))
        where
          before : (e : ℕ) → 0 < e → (d : ℕ) × (e ≡ suc d)
          before zero pos = absurd (omega arith)
          before (suc d) pos = (d, refl)

      module _ (x : ℕ) (hx : x < size h) (word : is_word h (set ws j x) ≡ true) where
        -- what was taken away
        abbrev y : ℕ
        y = sub p held x

        y_below : y < size h
        y_below = laws.sub_below held x held_below hx

        same : (e : ℕ) → 0 < e → e ≤ checks → sum_at e ≡ mul p y (factor h s e j)
        same = where_word y y_below (rw (sub_back h s held x held_below hx) word)

        -- a lane that a symbol mends has sums that go up
        pub word_up : GoesUp
        word_up e pos low = same (e + 1) (omega arith) (omega arith) ∙ term_next y e y_below ∙ ap (mul p c) (sym (same e pos (omega arith)))

        -- and the symbol is what the node held less the amount
        pub word_symbol : 0 < checks → x ≡ sub p held amount
        word_symbol some =
            let first : sum_at 1 ≡ mul p y c = same 1 (omega arith) (omega arith) ∙ ap (mul p y) (factor_one h s j node) in
            let is : amount ≡ y = ap (λ (a : ℕ). mul p a back) first ∙ laws.mul_assoc y c back y_below (root_below j) (root_below _) ∙ ap (mul p y) (root_back h s j node) ∙ laws.mul-one y y_below in
            sym (ap (sub p held) is ∙ sub_back h s held x held_below hx)
