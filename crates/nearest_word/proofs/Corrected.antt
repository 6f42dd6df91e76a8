-- What setting a lane right does: a word stays, and where a word is near enough the lane becomes it.
use mathlib.Core.Path.{◌≡◌, sym, ap, ◌∙◌}
use mathlib.Core.Bool.{Bool, true, false, ◌&&◌, and-true}
use mathlib.Core.List.{List}
use Prim.Native.Nat.{ℕ, ◌+◌, ◌≤◌}
use native.Mathlib.Omega.{arith}
use borrow.Author.Tests.{le-leb}
use lib.ListN.{length}
use Rattle.lists.specs.Counting.{differ}
use Rattle.lists.specs.Numbers.{all_below}
use Rattle.lists.proofs.Cases.{by_test}
use Rattle.lists.proofs.Differ.{differ_same, same_lists}
use Rattle.generator.specs.declared.Header.{Header}
use Rattle.generator.specs.Records.{size, Sound}
use Rattle.generator.specs.Codewords.{is_word}
use Rattle.nearest_word.specs.Nearest.{radius, is_near, has_near, nearest, corrected}
use Rattle.nearest_word.proofs.Near.{Near, near_word, near_close, nearest_is, nearest_near, judged}

-- the lane set right, where a word is near enough and where none is
pub corrected_near : (h : Header) (ws : List ℕ) → has_near h ws ≡ true → corrected h ws ≡ nearest h ws
unfolding corrected
corrected_near h ws t = rw t

pub corrected_far : (h : Header) (ws : List ℕ) → has_near h ws ≡ false → corrected h ws ≡ ws
unfolding corrected
corrected_far h ws t = rw t

module _ (h : Header) (s : Sound h) (ws : List ℕ) (long : length ws ≡ h.n) (below : all_below (size h) ws ≡ true) where
  -- a word is nearest to itself
  own : is_word h ws ≡ true → Near h s ws ws
  unfolding is_near
  own w = record { long = long; below = below; passes = rw (w, differ_same ws) (le-leb 0 (radius h) (omega arith)) }

  pub word_near : is_word h ws ≡ true → has_near h ws ≡ true
  word_near w = (nearest_is h s ws long ws (own w)).0

  -- so it stays
  pub word_stays : is_word h ws ≡ true → corrected h ws ≡ ws
  word_stays w = let n = nearest_is h s ws long ws (own w) in corrected_near h ws n.0 ∙ n.1

  -- a lane set right has n symbols
  pub corrected_long : length (corrected h ws) ≡ h.n
  corrected_long = by_test (has_near h ws) (λ t. ap length (corrected_near h ws t) ∙ (nearest_near h s ws long t).long) (λ t. ap length (corrected_far h ws t) ∙ long)

  pub corrected_below : all_below (size h) (corrected h ws) ≡ true
  corrected_below = by_test (has_near h ws) (λ t. ap (all_below (size h)) (corrected_near h ws t) ∙ (nearest_near h s ws long t).below) (λ t. ap (all_below (size h)) (corrected_far h ws t) ∙ below)

  -- where a word is near enough, it is that word
  pub corrected_word : has_near h ws ≡ true → is_word h (corrected h ws) ≡ true
  corrected_word t = ap (is_word h) (corrected_near h ws t) ∙ near_word h s ws long (nearest h ws) (nearest_near h s ws long t)

  pub corrected_close : differ ws (corrected h ws) ≤ radius h
  corrected_close =
      by_test (has_near h ws) (λ t. rw (corrected_near h ws t) (near_close h s ws long (nearest h ws) (nearest_near h s ws long t)))
      (λ t. rw (corrected_far h ws t, differ_same ws) (omega arith))

  -- the word that is near enough, whatever way it was found
  pub corrected_is : (us : List ℕ) → Near h s ws us → corrected h ws ≡ us
  corrected_is us m = let n = nearest_is h s ws long us m in corrected_near h ws n.0 ∙ n.1

  radius_none : h.n ≤ h.k + 1 → radius h ≡ 0
  unfolding radius
  radius_none fits = omega arith

  -- for k = n and k = n − 1 only a word is near enough
  pub exact : h.n ≤ h.k + 1 → has_near h ws ≡ is_word h ws
  unfolding is_near
  exact fits =
      let none = radius_none fits in
      (judged h s ws long ws long below (λ vs m. sym (same_lists ws vs (long ∙ sym m.long) (let d = near_close h s ws long vs m in omega arith)))).0
      ∙ ap (λ (c : Bool). is_word h ws && c) (le-leb (differ ws ws) (radius h) (omega (arith, differ_same ws)))
      ∙ and-true (is_word h ws)
