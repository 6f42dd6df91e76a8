-- What holds where the condition of a number fails.
use mathlib.Core.Path.{◌≡◌}
use mathlib.Core.Bool.{true, false}
use mathlib.Core.List.{List}
use Prim.Native.Nat.{ℕ, ◌≤◌, ◌<◌}
use native.Mathlib.Omega.{arith}
use borrow.Author.Tests.{eqb-true, eqb-false, ltb-false, leb-false, not-false}
use lib.Dec.{eqb, ltb}
use lib.ListN.{get_or}
use Rattle.lists.specs.Numbers.{all_below, distinct}
use Rattle.std.proofs.lemmas.Bool.{or_parts}
use Rattle.layout.specs.Layout.{Arrangement, lane_of}
use Rattle.layout.specs.Width.{symbols_of}
use Rattle.generator.specs.declared.Header.{Header}
use Rattle.generator.specs.Records.{size, width}
use Rattle.generator.specs.Codewords.{is_word}
use Rattle.generator.specs.Messages.{message_of}
use Rattle.refusals.specs.Conditions.{lanes_bad, length_bad, number_bad, nodes_bad, twice_bad, symbol_bad, symbols_bad, lane_bad, no_word, other_symbol}

-- number 7
pub lanes_good : (l : ℕ) → lanes_bad l ≡ false → (0 < l) × (l ≤ 4096)
unfolding lanes_bad
lanes_good l e =
    let some : l ≡ 0 → ⊥ = eqb-false l 0 (or_parts (eqb l 0) (ltb 4096 l) e).0 in
    (omega arith, ltb-false 4096 l (or_parts (eqb l 0) (ltb 4096 l) e).1)

-- number 8
pub length_good : (stated long : ℕ) → length_bad stated long ≡ false → long ≡ stated
unfolding length_bad
length_good stated long e = eqb-true long stated (not-false _ e)

-- number 9
pub number_good : (end x : ℕ) → number_bad end x ≡ false → x < end
unfolding number_bad
number_good end x e = leb-false end x e

module _ (h : Header) where
  pub nodes_good : (nodes : List ℕ) → nodes_bad h nodes ≡ false → all_below h.n nodes ≡ true
  unfolding nodes_bad
  nodes_good nodes e = not-false _ e

  -- number 11
  pub symbol_good : (x : ℕ) → symbol_bad h x ≡ false → x < size h
  unfolding symbol_bad
  symbol_good x e = leb-false (size h) x e

  pub symbols_good : (s : List ℕ) → symbols_bad h s ≡ false → all_below (size h) (symbols_of (width h) s) ≡ true
  unfolding symbols_bad
  symbols_good s e = not-false _ e

  pub lane_good : (y : Arrangement) (l t : ℕ) (shares : List ℕ) → lane_bad y h l t shares ≡ false → all_below (size h) (lane_of y h.n l t (symbols_of (width h) shares)) ≡ true
  unfolding lane_bad
  lane_good y l t shares e = not-false _ e

  -- number 12
  pub word_good : (ws : List ℕ) → no_word h ws ≡ false → is_word h ws ≡ true
  unfolding no_word
  word_good ws e = not-false _ e

  -- number 13
  pub held_good : (ws : List ℕ) (r old : ℕ) → other_symbol h ws r old ≡ false → get_or (message_of h ws) r 0 ≡ old
  unfolding other_symbol
  held_good ws r old e = eqb-true _ old (not-false _ e)

-- number 10
pub twice_good : (nodes : List ℕ) → twice_bad nodes ≡ false → distinct nodes ≡ true
unfolding twice_bad
twice_good nodes e = not-false _ e
