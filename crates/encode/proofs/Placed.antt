-- Sums of the base word's entries times symbols that stand at the places of their rows' shifts, two times round, are what a node holds.
use mathlib.Core.Path.{◌≡◌, refl, sym, ap, ◌∙◌}
use mathlib.Core.Bool.{true}
use mathlib.Core.List.{List, [], ◌∷◌}
use Prim.Native.Nat.{ℕ, zero, suc, ◌+◌, ◌-◌, ◌%◌, ◌≤◌, ◌<◌}
use native.Mathlib.Nat.{mod-eq_of_lt, add-mod_left}
use native.Mathlib.Omega.{arith}
use borrow.Author.Tests.{ltb-true, ltb-false}
use lib.Dec.{ltb}
use lib.ListN.{length, get_or, drop, set, length-set, length-drop}
use lib.Seq.{get_or-set_other, get_or-drop, drop-set-lt, drop-set-add}
use Rattle.lists.specs.Numbers.{all_below}
use Rattle.lists.proofs.Cases.{by_test}
use Rattle.lists.proofs.Numbers.{below_drop, below_set, below_get_or, below_cons}
use Rattle.field.specs.Fields.{is_field, size_of, add, sub, mul}
use Rattle.field.specs.Inner.Sums.{dot}
use Rattle.field.proofs.Arithmetic.{Arithmetic, mul-zero}
use Rattle.field.proofs.BothKinds.{arithmetic}
use Rattle.field.proofs.FieldOf.{size_pos}
use Rattle.field.proofs.Sums.{dot_below}
use Rattle.generator.specs.declared.Header.{Header}
use Rattle.generator.specs.Records.{modulus_of, size, Sound}
use Rattle.generator.specs.Generator.{entry}
use Rattle.generator.specs.Codewords.{node_from}
use Rattle.generator.proofs.Bounds.{entry_below, node_from_below}
use Rattle.encode.specs.Inner.OneLane.{placed_from}

-- past the end of a list
pub past : (xs : List ℕ) (i : ℕ) → length xs ≤ i → get_or xs i 0 ≡ 0
past [] i far = refl
past (x ∷ xs) zero far = absurd (omega arith)
past (x ∷ xs) (suc i) far = past xs i (omega arith)

module _ (p : ℕ) (v : is_field p ≡ true) where
  abbrev q : ℕ
  q = size_of p

  abbrev A : Arithmetic (size_of p) (add p) (sub p) (mul p)
  A = arithmetic p v

  -- what is multiplied by 0 adds nothing
  nothing : (y m g : ℕ) → g ≡ 0 → m < size_of p → y < size_of p → add p y (mul p m g) ≡ y
  nothing y m g e hm hy = ap (λ (z : ℕ). add p y (mul p m z)) e ∙ ap (add p y) (mul-zero A m hm) ∙ A.add-zero y hy

  -- a symbol put where 0 stood
  put_sum : (ws ys : List ℕ) (i m : ℕ) → i < length ys → get_or ys i 0 ≡ 0 → m < size_of p → all_below (size_of p) ws ≡ true → all_below (size_of p) ys ≡ true → dot p ws (set ys i m) ≡ add p (dot p ws ys) (mul p m (get_or ws i 0))
  unfolding dot
  put_sum [] ys i m inside z hm bw by = sym (nothing 0 m 0 refl hm (size_pos p v))
  put_sum (w ∷ ws) [] i m inside z hm bw by = absurd (omega arith)
  put_sum (w ∷ ws) (y ∷ ys) zero m inside z hm bw by =
      let hw = (below_cons q w ws bw).0 in
      let others = dot_below p v ws ys (below_cons q w ws bw).1 (below_cons q y ys by).1 in
      ap (λ (x : ℕ). add p x (dot p ws ys)) (A.mul_comm w m hw hm)
      ∙ A.add_comm (mul p m w) (dot p ws ys) (A.mul_below m w hm hw) others
      ∙ ap (λ (x : ℕ). add p x (mul p m w)) (sym (A.add_comm (mul p w y) (dot p ws ys) (A.mul_below w y hw (below_cons q y ys by).0) others ∙ nothing (dot p ws ys) w y z hw others))
  put_sum (w ∷ ws) (y ∷ ys) (suc i) m inside z hm bw by =
      let bw1 = (below_cons q w ws bw).1 in
      let by1 = (below_cons q y ys by).1 in
      ap (add p (mul p w y)) (put_sum ws ys i m (omega arith) z hm bw1 by1)
      ∙ sym (A.add_assoc (mul p w y) (dot p ws ys) (mul p m (get_or ws i 0)) (A.mul_below w y (below_cons q w ws bw).0 (below_cons q y ys by).0) (dot_below p v ws ys bw1 by1) (A.mul_below m (get_or ws i 0) hm (below_get_or q ws (size_pos p v) bw1 i)))

  -- the same for the sum from place t on
  put_window : (t u m : ℕ) (ws xs : List ℕ) → t ≤ u → u < length xs → get_or xs u 0 ≡ 0 → m < size_of p → all_below (size_of p) ws ≡ true → all_below (size_of p) xs ≡ true → dot p ws (drop t (set xs u m)) ≡ add p (dot p ws (drop t xs)) (mul p m (get_or ws (u - t) 0))
  put_window t u m ws xs after inside z hm bw bx =
      let same : u ≡ t + (u - t) = omega arith in
      ap (λ (x : ℕ). dot p ws (drop t (set xs x m))) same
      ∙ ap (dot p ws) (drop-set-add t xs (u - t) m)
      ∙ put_sum ws (drop t xs) (u - t) m (rw (length-drop t xs) (omega arith)) (get_or-drop t xs (u - t) 0 ∙ ap (λ (x : ℕ). get_or xs x 0) (sym same) ∙ z) hm bw (below_drop q t xs bx)

  module _ (n t s m : ℕ) (ws xs : List ℕ) (short : length ws ≤ n) (low : t < n) (place : s < n) (room : n + n ≤ length xs) (free : get_or xs s 0 ≡ 0) (free_again : get_or xs (s + n) 0 ≡ 0) (hm : m < size_of p) (bw : all_below (size_of p) ws ≡ true) (bx : all_below (size_of p) xs ≡ true) where
    -- the second time: at s + n
    again : get_or (set xs s m) (s + n) 0 ≡ 0
    again = get_or-set_other xs s (s + n) m 0 (λ e. omega arith) ∙ free_again

    second : dot p ws (drop t (set (set xs s m) (s + n) m)) ≡ add p (dot p ws (drop t (set xs s m))) (mul p m (get_or ws (s + n - t) 0))
    second = put_window t (s + n) m ws (set xs s m) (omega arith) (omega (arith, length-set xs s m)) again hm bw (below_set q xs s m hm bx)

    -- of the two places one is among the n from t on: there the symbol meets weight (s − t) modulo n
    pub twice_sum : dot p ws (drop t (set (set xs s m) (s + n) m)) ≡ add p (dot p ws (drop t xs)) (mul p m (get_or ws ((s + (n - t)) % n) 0))
    twice_sum =
        by_test (ltb s t)
        (λ e.
        let before = ltb-true s t e in
        let round : s + n - t ≡ s + (n - t) = omega arith in
        second ∙ ap (λ (ys : List ℕ). add p (dot p ws ys) (mul p m (get_or ws (s + n - t) 0))) (drop-set-lt t xs s m before)
        ∙ ap (λ (x : ℕ). add p (dot p ws (drop t xs)) (mul p m (get_or ws x 0))) (round ∙ sym (mod-eq_of_lt (omega arith))))
        (λ e.
        let after = ltb-false s t e in
        let first = put_window t s m ws xs after (omega arith) free hm bw bx in
        let round : s + (n - t) ≡ n + (s - t) = omega arith in
        second
        ∙ nothing _ m _ (past ws (s + n - t) (omega arith)) hm (dot_below p v ws (drop t (set xs s m)) bw (below_drop q t (set xs s m) (below_set q xs s m hm bx)))
        ∙ first
        ∙ ap (λ (x : ℕ). add p (dot p ws (drop t xs)) (mul p m (get_or ws x 0))) (sym (ap (λ (x : ℕ). x % n) round ∙ add-mod_left n (s - t) ∙ mod-eq_of_lt (omega arith))))

-- the shifts ss lead to different places below n, and from place t on ws meets each row's symbol with the row's entry of node j
pub record Leads (h : Header) (n j t : ℕ) (ss ws : List ℕ) : Type 0 where
  pub low : (r : ℕ) → r < h.k → get_or ss r 0 < n
  pub apart : (r u : ℕ) → r < u → u < h.k → get_or ss u 0 ≡ get_or ss r 0 → ⊥
  pub entries : (r : ℕ) → r < h.k → get_or ws ((get_or ss r 0 + (n - t)) % n) 0 ≡ entry h r j
  pub from_low : t < n
  pub short : length ws ≤ n
  pub symbols : all_below (size h) ws ≡ true

module _ (h : Header) (s : Sound h) (n j t : ℕ) (ss ws : List ℕ) (leads : Leads h n j t ss ws) where
  abbrev P : ℕ
  P = modulus_of h

  -- rows from r on have no symbol yet
  abbrev Free : ℕ → List ℕ → Type 0
  Free r xs = (u : ℕ) → r ≤ u → u < h.k → (get_or xs (get_or ss u 0) 0 ≡ 0) × (get_or xs (get_or ss u 0 + n) 0 ≡ 0)

  -- a place that is neither of two keeps what it held
  kept : (xs : List ℕ) (x y m : ℕ) → (y ≡ x → ⊥) → (y ≡ x + n → ⊥) → get_or xs y 0 ≡ 0 → get_or (set (set xs x m) (x + n) m) y 0 ≡ 0
  kept xs x y m one two z = get_or-set_other (set xs x m) (x + n) y m 0 two ∙ get_or-set_other xs x y m 0 one ∙ z

  -- the sum over what was placed is what the node holds
  pub placed_sum : (r : ℕ) (ms xs : List ℕ) → r + length ms ≤ h.k → n + n ≤ length xs → all_below (size h) ms ≡ true → all_below (size h) xs ≡ true → Free r xs → dot P ws (drop t (placed_from n r ss ms xs)) ≡ add P (dot P ws (drop t xs)) (node_from r h ms j)
  unfolding placed_from node_from
  placed_sum r [] xs fits room bm bx free = sym ((arithmetic P s.field).add-zero _ (dot_below P s.field ws (drop t xs) leads.symbols (below_drop (size h) t xs bx)))
  placed_sum r (m ∷ ms) xs fits room bm bx free =
      let x = get_or ss r 0 in
      let row : r < h.k = omega arith in
      let hm = (below_cons (size h) m ms bm).0 in
      let bm1 = (below_cons (size h) m ms bm).1 in
      let low = leads.low r row in
      let bx1 = below_set (size h) (set xs x m) (x + n) m hm (below_set (size h) xs x m hm bx) in
      placed_sum (r + 1) ms (set (set xs x m) (x + n) m) (omega arith) (omega (arith, length-set xs x m, length-set (set xs x m) (x + n) m)) bm1 bx1
      (λ u high u_row.
      let y = get_or ss u 0 in
      let other = leads.apart r u (omega arith) u_row in
      let y_low = leads.low u u_row in
      let z = free u (omega arith) u_row in
      (kept xs x y m other (λ e. omega arith) z.0, kept xs x (y + n) m (λ e. omega arith) (λ e. other (omega arith)) z.1))
      ∙ ap (λ (y : ℕ). add P y (node_from (r + 1) h ms j))
      (twice_sum P s.field n t x m ws xs leads.short leads.from_low low room (free r (omega arith) row).0 (free r (omega arith) row).1 hm leads.symbols bx
      ∙ ap (λ (g : ℕ). add P (dot P ws (drop t xs)) (mul P m g)) (leads.entries r row))
      ∙ (arithmetic P s.field).add_assoc _ _ _ (dot_below P s.field ws (drop t xs) leads.symbols (below_drop (size h) t xs bx)) ((arithmetic P s.field).mul_below m (entry h r j) hm (entry_below h s r j)) (node_from_below h s (r + 1) ms j bm1)
