-- At most one word of the code differs from a lane at no more than (n − k − lost)/2 of the nodes that are not lost.
use mathlib.Core.Path.{◌≡◌, refl, sym, ap, ◌∙◌}
use mathlib.Core.Bool.{Bool, true, false, ◌&&◌, not}
use mathlib.Core.List.{List}
use Prim.Native.Nat.{ℕ, ◌+◌, ◌≤◌}
use native.Mathlib.Omega.{arith}
use borrow.Author.Tests.{eq-eqb, eqb-true, not-false, leb-true}
use lib.Dec.{eqb, leb}
use lib.ListN.{length, get_or}
use Rattle.lists.specs.Counting.{differ}
use Rattle.lists.specs.Numbers.{is_in}
use Rattle.lists.proofs.AllLists.{Passes}
use Rattle.std.proofs.lemmas.Bool.{and_parts}
use Rattle.lists.proofs.Count.{count_either}
use Rattle.lists.proofs.Differ.{unlike}
use Rattle.generator.specs.declared.Header.{Header}
use Rattle.generator.specs.Records.{size, Sound}
use Rattle.generator.specs.Codewords.{is_word}
use Rattle.nearest_word.proofs.Near.{words_apart}
use Rattle.near_message.specs.Inner.Lost.{lost_radius, differ_but, is_near_but}
use Rattle.near_message.proofs.CountIn.{count_in}

-- a node that is lost or at which the lists hold the same
pub but_false : (lost ws us : List ℕ) (j : ℕ) → is_in j lost ≡ false → (not (is_in j lost) && unlike ws us j) ≡ false → get_or ws j 0 ≡ get_or us j 0
but_false lost ws us j out t = eqb-true (get_or ws j 0) (get_or us j 0) (not-false _ (sym (ap (λ (b : Bool). not b && unlike ws us j) out) ∙ t))

-- by way of a third list, all nodes but the lost ones
but_by : (n : ℕ) (lost ws us vs : List ℕ) → length ws ≡ n → length us ≡ n → differ us vs ≤ length lost + (differ_but lost ws us + differ_but lost ws vs)
unfolding differ differ_but
but_by n lost ws us vs lw lu =
    let out : ℕ → Bool = λ j. not (is_in j lost) && unlike us vs j in
    rw (lw, lu)
    (omega (
      arith,
      count_in n lost,
      count_either n 0 (unlike us vs) (λ j. is_in j lost) out (λ j l b p q. sym (ap (λ (b : Bool). not b && unlike us vs j) p) ∙ q),
      count_either n 0 out (λ j. not (is_in j lost) && unlike ws us j) (λ j. not (is_in j lost) && unlike ws vs j) (λ j l b p q. both (is_in j lost) (get_or ws j 0) (get_or us j 0) (get_or vs j 0) p q),
    ))
  where
    alike : (x y : ℕ) → not (eqb x y) ≡ false → x ≡ y
    alike x y h = eqb-true x y (not-false _ h)

    both : (i : Bool) (x y z : ℕ) → (not i && not (eqb x y)) ≡ false → (not i && not (eqb x z)) ≡ false → (not i && not (eqb y z)) ≡ false
    both true x y z p q = refl
    both false x y z p q = ap not (eq-eqb y z (sym (alike x y p) ∙ alike x z q))

module _ (h : Header) (s : Sound h) (lost : List ℕ) (room : length lost + h.k ≤ h.n) where
  pub lost_fits : h.k + (length lost + (lost_radius h lost + lost_radius h lost)) ≤ h.n
  unfolding lost_radius
  lost_fits = omega arith

  -- n symbols that are a word near to ws
  abbrev pub NearBut : List ℕ → List ℕ → Type 0
  NearBut ws us = Passes (size h) h.n (is_near_but h lost ws) us

  module _ (ws : List ℕ) (long : length ws ≡ h.n) where
    pub but_word : (us : List ℕ) → NearBut ws us → is_word h us ≡ true
    unfolding is_near_but
    but_word us m = (and_parts (is_word h us) (leb (differ_but lost ws us) (lost_radius h lost)) m.passes).0

    pub but_close : (us : List ℕ) → NearBut ws us → differ_but lost ws us ≤ lost_radius h lost
    unfolding is_near_but
    but_close us m = leb-true (differ_but lost ws us) (lost_radius h lost) (and_parts (is_word h us) (leb (differ_but lost ws us) (lost_radius h lost)) m.passes).1

    -- at most one word is that near
    pub but_one : (us vs : List ℕ) → NearBut ws us → NearBut ws vs → us ≡ vs
    but_one us vs m q =
        words_apart h s us vs m.long q.long m.below q.below (but_word us m) (but_word vs q)
        (omega (arith, but_by h.n lost ws us vs long m.long, but_close us m, but_close vs q, lost_fits))
