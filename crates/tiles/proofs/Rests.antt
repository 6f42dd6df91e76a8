-- Parts that are replaced one over the other, and the symbols of a lane.
use Rattle.std.proofs.Common.{◌≡◌, refl, sym, ap, ◌∙◌, List, ◌++◌, ℕ, ◌+◌, ◌-◌, ◌*◌, ◌/◌, ◌%◌, ◌≤◌, ◌<◌, zero-add, arith, ltb-true, ltb-false, ltb, length, get_or, take, drop, length-take, length-drop, ext_get_or, get_or-take, length-take-le}
use lib.Lanes.{chunk}
use Rattle.std.proofs.lemmas.Simd.{length-chunk, get_or-chunk}
use Rattle.lists.proofs.Cases.{by_test}
use native.Mathlib.Nat.{add-sub_cancel_left}
use Rattle.lists.proofs.Rows.{part_length, get_d_part}
use Rattle.tiles.specs.Inner.Squares.{placed, lane_at}
use Rattle.tiles.specs.Inner.Words.{patched}
use Rattle.tiles.proofs.Shuffles.{length_placed}
use Rattle.lists.proofs.Parts.{Valued, valued_part, valued_all}
use Rattle.layout.proofs.Runs.{length_replaced, replaced_inside, replaced_before}

module _ (a k : ℕ) (s t : List ℕ) (s_fits : a + k ≤ length s) (t_fits : a + k ≤ length t) where
  pub length_patched : length (patched a k s t) ≡ length t
  unfolding patched
  length_patched =
      rw (add-sub_cancel_left a k) (length_replaced t (take k (drop a s)) a k (rw (add-sub_cancel_left a k) at (part_length a k s s_fits)) t_fits)

  patched_inside : (p : ℕ) → p < k → get_or (patched a k s t) (a + p) 0 ≡ get_or s (a + p) 0
  unfolding patched
  patched_inside p h =
      rw (add-sub_cancel_left a k)
      (replaced_inside t (take k (drop a s)) a k (rw (add-sub_cancel_left a k) at (part_length a k s s_fits)) t_fits p h
      ∙ rw (add-sub_cancel_left a k) at (get_d_part a k s p h))

  patched_before : (p : ℕ) → p < a → get_or (patched a k s t) p 0 ≡ get_or t p 0
  unfolding patched
  patched_before p h =
      rw (add-sub_cancel_left a k) (replaced_before t (take k (drop a s)) a k (rw (add-sub_cancel_left a k) at (part_length a k s s_fits)) t_fits p h)

-- two parts of k that cover n places
pub patched_twice : (k n : ℕ) (s t : List ℕ) → length t ≡ n → k ≤ n → n ≤ k + k → n ≤ length s → patched (n - k) k s (patched 0 k s t) ≡ take n s
patched_twice k n s t t_long low high s_long =
    let once : length (patched 0 k s t) ≡ length t = length_patched 0 k s t (omega arith) (omega arith) in
    let twice : length (patched (n - k) k s (patched 0 k s t)) ≡ length (patched 0 k s t) = length_patched (n - k) k s (patched 0 k s t) (omega arith) (omega arith) in
    ext_get_or 0 (patched (n - k) k s (patched 0 k s t)) (take n s)
    (twice ∙ once ∙ t_long ∙ sym (length-take-le n s s_long))
    (λ p h.
    let inside : p < n = omega arith in
    sym_take p inside
    (by_test (ltb p (n - k))
    (λ e.
    let before : p < n - k = ltb-true p (n - k) e in
    let first : get_or (patched 0 k s t) (0 + p) 0 ≡ get_or s (0 + p) 0 = patched_inside 0 k s t (omega arith) (omega arith) p (omega arith) in
    patched_before (n - k) k s (patched 0 k s t) (omega arith) (omega arith) p before ∙ rw zero-add at first)
    (λ e.
    let later : n - k ≤ p = ltb-false p (n - k) e in
    let place : n - k + (p - (n - k)) ≡ p = omega arith in
    rw place at (patched_inside (n - k) k s (patched 0 k s t) (omega arith) (omega arith) (p - (n - k)) (omega arith)))))
  where
    sym_take : (p : ℕ) → p < n → {x : ℕ} → x ≡ get_or s p 0 → x ≡ get_or (take n s) p 0
    sym_take p h e = e ∙ sym (get_or-take n s p 0 h)

-- symbol j of lane t
abbrev pub lane_byte : List ℕ → ℕ → ℕ → ℕ
lane_byte blocks t j = get_or blocks (j / 16 * 1024 + (t * 16 + j % 16)) 0

lane_place : (b t p : ℕ) → p < 16 → b * 1024 + t * 16 + p ≡ (b * 16 + p) / 16 * 1024 + (t * 16 + (b * 16 + p) % 16)
lane_place b t p h = omega arith

pub lane_row : (blocks : List ℕ) (t b p : ℕ) → p < 16 → get_or (chunk (b * 1024 + t * 16) 16 blocks) p 0 ≡ lane_byte blocks t (b * 16 + p)
lane_row blocks t b p h =
    get_or-chunk (b * 1024 + t * 16) 16 blocks p 0 h ∙ ap (λ (q : ℕ). get_or blocks q 0) (lane_place b t p h)

-- the last symbols, fewer than 16
pub lane_rest : (blocks : List ℕ) (t n b : ℕ) {start now : List ℕ} → let j = b * 16 in Valued (lane_byte blocks t) n start now j → n ≡ length start → j < n → n < j + 16 → b * 1024 + t * 16 + 16 ≤ length blocks → take j now ++ (take (length (take (n - j) (drop j now))) (take (b * 1024 + t * 16 + 16 - (b * 1024 + t * 16)) (drop (b * 1024 + t * 16) blocks)) ++ drop (n - j) (drop j now)) ≡ lane_at t n blocks
unfolding lane_at placed
lane_rest blocks t n b {start} {now} a long some few inside =
    let j : ℕ = b * 16 in
    let rest : length (take (n - j) (drop j now)) ≡ n - j = simp (length-take, length-drop) (omega (arith, a.long)) in
    let part : List ℕ = chunk (b * 1024 + t * 16) 16 blocks in
    let part_long : length part ≡ 16 = length-chunk (b * 1024 + t * 16) 16 blocks inside in
    let all : j + (n - j) ≡ n = omega arith in
    rw (rest, add-sub_cancel_left (b * 1024 + t * 16) 16)
    (valued_all (lane_byte blocks t) n
    (valued_part (lane_byte blocks t) n (take (n - j) part) (n - j) (n - j) a (omega arith) (omega arith) refl
    (length-take-le (n - j) part (omega arith))
    (λ p h. get_or-take (n - j) part p 0 h ∙ lane_row blocks t b p (omega arith)))
    (omega arith) (omega arith))

pub length_lane : (t n : ℕ) (blocks : List ℕ) → length (lane_at t n blocks) ≡ n
unfolding lane_at
length_lane t n blocks = length_placed _ n blocks
