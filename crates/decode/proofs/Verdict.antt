-- The candidate decides: it is the nearest word, or there is none.
use mathlib.Core.Path.{◌≡◌, sym, ap, ◌∙◌}
use mathlib.Core.Bool.{Bool, true, false, ◌&&◌, and-false}
use mathlib.Core.List.{List}
use Prim.Native.Nat.{ℕ, ◌≤◌, ◌<◌}
use Rattle.std.specs.Prelude.{MatchOption}
use Rattle.std.specs.Bool.{then_some}
use borrow.Author.Tests.{le-leb, lt-leb}
use lib.Dec.{leb}
use Rattle.lists.specs.Counting.{differ}
use Rattle.lists.specs.Padded.{padded}
use Rattle.generator.specs.declared.Header.{Header}
use Rattle.generator.specs.Codewords.{is_word}
use Rattle.nearest_word.specs.Nearest.{radius, is_near, has_near, nearest, corrected}
use Rattle.nearest_word.proofs.Near.{judged}
use Rattle.nearest_word.proofs.Corrected.{corrected_near}
use Rattle.decode.specs.declared.Corrected.{Corrected}
use Rattle.decode.specs.Inner.Candidates.{SoundLane, Candidate}

module _ (h : Header) (ws array : List ℕ) (lane : SoundLane h ws) (c : Candidate h ws array) where
  abbrev word : List ℕ
  word = c.word

  both : (has_near h ws ≡ is_near h ws word) × (is_near h ws word ≡ true → nearest h ws ≡ word)
  both = judged h lane.sound ws lane.long word c.long c.below (λ vs m. c.only vs m.long m.below m.passes)

  -- it is near enough
  says_near : differ ws word ≤ radius h → is_word h word ≡ true → (has_near h ws ≡ true) × (array ≡ padded 255 (corrected h ws)) × (differ ws word ≡ differ ws (corrected h ws))
  unfolding is_near
  says_near d w =
      let t : is_near h ws word ≡ true = rw (w, le-leb (differ ws word) (radius h) d) in
      let has : has_near h ws ≡ true = both.0 ∙ t in
      let is : corrected h ws ≡ word = corrected_near h ws has ∙ both.1 t in
      (has, c.array_is ∙ ap (padded 255) (sym is), ap (differ ws) (sym is))

  -- it is too far away
  pub says_far : radius h < differ ws word → has_near h ws ≡ false
  unfolding is_near
  says_far d = both.0 ∙ ap (λ (b : Bool). is_word h word && b) (lt-leb (differ ws word) (radius h) d) ∙ and-false (is_word h word)

  -- or it is no word
  says_none : is_word h word ≡ false → has_near h ws ≡ false
  unfolding is_near
  says_none w = both.0 ∙ ap (λ (b : Bool). b && leb (differ ws word) (radius h)) w

  -- what a candidate near enough is, by the test whether it is a word
  pub says_found : (w : Bool) (n : ℕ) → w ≡ is_word h word → n ≡ differ ws word → n ≤ radius h → MatchOption (then_some w (record { lane = array; altered = n })) (has_near h ws ≡ false) (λ (found : Corrected). (has_near h ws ≡ true) × (found.lane ≡ padded 255 (corrected h ws)) × (found.altered ≡ differ ws (corrected h ws)))
  says_found true n t d m = let k = says_near (rw (← d) m) (sym t) in (k.0, k.1, d ∙ k.2)
  says_found false n t d m = says_none (sym t)
