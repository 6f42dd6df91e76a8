-- A lane less the errors at some nodes: one node after the other, and what it holds at each.
use mathlib.Core.Path.{◌≡◌, refl, sym, ap, ◌∙◌}
use mathlib.Core.Bool.{true}
use mathlib.Core.List.{List, [], ◌∷◌}
use Prim.Native.Nat.{ℕ, zero, suc, ◌+◌, ◌≤◌, ◌<◌}
use native.Mathlib.Omega.{arith}
use lib.ListN.{length, get_or, set, drop, length-set, drop_of_length-le}
use lib.Seq.{get_or-set_same, get_or-set_other, set-append_left}
use Rattle.lists.specs.Numbers.{all_below}
use Rattle.lists.specs.Padded.{padded, zeros}
use Rattle.lists.proofs.All.{All, All-at, Distinct}
use Rattle.lists.proofs.Front.{drop_next}
use Rattle.lists.proofs.Numbers.{below_cons, below_get_or, below_set}
use Rattle.lists.proofs.Padding.{get_or_padded}
use Rattle.field.specs.Fields.{is_field, size_of, sub}
use Rattle.field.proofs.Bounds.{sub_below}
use Rattle.field.proofs.FieldOf.{size_pos}
use Rattle.decode.specs.Inner.Errors.{removed}

-- a place of a list that is padded, set
pub set_padded : (n : ℕ) (ws : List ℕ) (j x : ℕ) → j < length ws → set (padded n ws) j x ≡ padded n (set ws j x)
unfolding padded
set_padded n ws j x low = rw (length-set ws j x) (set-append_left ws (zeros _) j x low)

module _ (p : ℕ) where
  -- one node more
  pub removed_next : (js es ws : List ℕ) (i : ℕ) → i < length js → i < length es → removed p (drop i js) (drop i es) ws ≡ removed p (drop (i + 1) js) (drop (i + 1) es) (set ws (get_or js i 0) (sub p (get_or ws (get_or js i 0) 0) (get_or es i 0)))
  unfolding removed
  removed_next js es ws i a b = rw (drop_next js i 0 a, drop_next es i 0 b)

  pub removed_end : (js es ws : List ℕ) (i : ℕ) → length js ≤ i → removed p (drop i js) (drop i es) ws ≡ ws
  unfolding removed
  removed_end js es ws i h = ap (λ (l : List ℕ). removed p l (drop i es) ws) (drop_of_length-le js h)

  pub length_removed : (js es ws : List ℕ) → length (removed p js es ws) ≡ length ws
  unfolding removed
  length_removed [] es ws = refl
  length_removed (j ∷ js) [] ws = refl
  length_removed (j ∷ js) (e ∷ es) ws = length_removed js es (set ws j (sub p (get_or ws j 0) e)) ∙ length-set ws j (sub p (get_or ws j 0) e)

  -- zeros after the lane play no part
  pub removed_padded : (n : ℕ) (js es ws : List ℕ) → all_below (length ws) js ≡ true → removed p js es (padded n ws) ≡ padded n (removed p js es ws)
  unfolding removed
  removed_padded n [] es ws b = refl
  removed_padded n (j ∷ js) [] ws b = refl
  removed_padded n (j ∷ js) (e ∷ es) ws b =
      let (low, rest) = below_cons (length ws) j js b in
      let x = sub p (get_or ws j 0) e in
      ap (λ (y : ℕ). removed p js es (set (padded n ws) j (sub p y e))) (get_or_padded n ws j low)
      ∙ ap (removed p js es) (set_padded n ws j x low)
      ∙ removed_padded n js es (set ws j x) (rw (length-set ws j x) rest)

  -- a node that is not listed keeps its symbol
  pub removed_other : (js es ws : List ℕ) (j : ℕ) → All (λ i. i ≡ j → ⊥) js → get_or (removed p js es ws) j 0 ≡ get_or ws j 0
  unfolding removed
  removed_other [] es ws j a = refl
  removed_other (i ∷ js) [] ws j a = refl
  removed_other (i ∷ js) (e ∷ es) ws j a = removed_other js es (set ws i (sub p (get_or ws i 0) e)) j a.1 ∙ get_or-set_other ws i j (sub p (get_or ws i 0) e) 0 (λ q. a.0 (sym q))

  -- and one that is loses its error
  pub removed_at : (js es ws : List ℕ) → Distinct js → all_below (length ws) js ≡ true → length es ≡ length js → (i : ℕ) → i < length js → get_or (removed p js es ws) (get_or js i 0) 0 ≡ sub p (get_or ws (get_or js i 0) 0) (get_or es i 0)
  unfolding removed
  removed_at [] es ws d b l i h = absurd (omega arith)
  removed_at (j ∷ js) [] ws d b l i h = absurd (omega arith)
  removed_at (j ∷ js) (e ∷ es) ws d b l zero h =
      let x = sub p (get_or ws j 0) e in
      removed_other js es (set ws j x) j (All-flip js d.0) ∙ get_or-set_same ws j x 0 (below_cons (length ws) j js b).0
    where
      All-flip : (l : List ℕ) → All (λ i. j ≡ i → ⊥) l → All (λ i. i ≡ j → ⊥) l
      All-flip [] a = tt
      All-flip (i ∷ l) a = (λ q. a.0 (sym q), All-flip l a.1)
  removed_at (j ∷ js) (e ∷ es) ws d b l (suc i) h =
      let x = sub p (get_or ws j 0) e in
      let (low, rest) = below_cons (length ws) j js b in
      removed_at js es (set ws j x) d.1 (rw (length-set ws j x) rest) (omega arith) i (omega arith)
      ∙ ap (λ (y : ℕ). sub p y (get_or es i 0)) (get_or-set_other ws j (get_or js i 0) x 0 (λ q. All-at (λ i. j ≡ i → ⊥) 0 js d.0 i (omega arith) (sym q)))

  -- what is left are symbols
  pub removed_below : is_field p ≡ true → (js es ws : List ℕ) → all_below (size_of p) es ≡ true → all_below (size_of p) ws ≡ true → all_below (size_of p) (removed p js es ws) ≡ true
  unfolding removed
  removed_below v [] es ws a b = b
  removed_below v (j ∷ js) [] ws a b = b
  removed_below v (j ∷ js) (e ∷ es) ws a b =
      let (low, rest) = below_cons (size_of p) e es a in
      removed_below v js es (set ws j (sub p (get_or ws j 0) e)) rest (below_set (size_of p) ws j (sub p (get_or ws j 0) e) (sub_below p v (below_get_or (size_of p) ws (size_pos p v) b j) low) b)
