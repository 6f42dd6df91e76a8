-- The conditions of a lane's two numbers, from a word test and from a symbol that is its message's where it is a word.
use mathlib.Core.Path.{◌≡◌, ap}
use mathlib.Core.Bool.{Bool, true, false, not}
use mathlib.Core.List.{List}
use Prim.Native.Nat.{ℕ}
use lib.Dec.{eqb}
use lib.ListN.{get_or}
use Rattle.generator.specs.declared.Header.{Header}
use Rattle.generator.specs.Codewords.{is_word}
use Rattle.generator.specs.Messages.{message_of}
use Rattle.refusals.specs.Conditions.{no_word, other_symbol}
use Rattle.refusals.proofs.NotMet.{word_good}

module _ (h : Header) (ws : List ℕ) where
  pub no_word_is : (word : Bool) → word ≡ is_word h ws → not word ≡ no_word h ws
  unfolding no_word
  no_word_is word e = ap not e

  pub other_symbol_is : (r old x : ℕ) → no_word h ws ≡ false → (is_word h ws ≡ true → x ≡ get_or (message_of h ws) r 0) → not (eqb x old) ≡ other_symbol h ws r old
  unfolding other_symbol
  other_symbol_is r old x word symbol = ap (λ (s : ℕ). not (eqb s old)) (symbol (word_good h ws word))
