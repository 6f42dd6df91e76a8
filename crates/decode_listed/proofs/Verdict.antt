-- The candidate decides: the listed symbols that it holds are those of the nearest message, or there is none.
use mathlib.Core.Path.{◌≡◌, sym, ap, ◌∙◌}
use mathlib.Core.Bool.{Bool, true, false, true≢false}
use mathlib.Core.List.{List, map}
use Prim.Native.Nat.{ℕ, ◌≤◌, ◌<◌}
use native.Mathlib.Omega.{arith}
use Rattle.std.specs.Prelude.{MatchOption}
use Rattle.std.specs.Bool.{then_some}
use borrow.Author.Tests.{le-leb, leb-true}
use lib.ListN.{get_or}
use Rattle.lists.specs.Counting.{differ}
use Rattle.lists.specs.Padded.{padded}
use Rattle.lists.proofs.Cases.{by_test}
use Rattle.generator.specs.declared.Header.{Header}
use Rattle.generator.specs.Records.{Sound}
use Rattle.generator.specs.Codewords.{is_word, encoding}
use Rattle.generator.specs.Claims.{at_nodes}
use Rattle.generator.proofs.Words.{words_encode}
use Rattle.near_message.specs.Nearest.{listed_radius, is_near_message, has_near_message, near_message}
use Rattle.near_message.specs.Inner.Listed.{ListedSymbols}
use Rattle.near_message.proofs.Messages.{near_message_is, near_message_near}
use Rattle.decode_listed.specs.Inner.Candidates.{ListedCandidate}
use Rattle.decode_listed.proofs.NodeLists.{picked}

module _ (h : Header) (s : Sound h) (nodes ys : List ℕ) (listed : ListedSymbols h nodes ys) (array : List ℕ) (c : ListedCandidate h nodes ys array) where
  -- what the candidate holds at the nodes
  abbrev right : List ℕ
  right = map (λ j. get_or array j 0) nodes

  -- where a message is near enough, its encoding is the candidate
  own : has_near_message h nodes ys ≡ true → encoding h (near_message h nodes ys) ≡ c.word
  own t = let n = near_message_near h s nodes ys listed t in c.only (near_message h nodes ys) n.0 n.1

  held : has_near_message h nodes ys ≡ true → right ≡ at_nodes h (near_message h nodes ys) nodes
  held t = picked h s nodes ys listed (near_message h nodes ys) c.word array c.array_is c.long (own t)

  -- it is too far away
  pub says_far : listed_radius h nodes < differ ys right → has_near_message h nodes ys ≡ false
  unfolding is_near_message
  says_far d =
      by_test (has_near_message h nodes ys)
      (λ t.
      let close = leb-true (differ ys (at_nodes h (near_message h nodes ys) nodes)) (listed_radius h nodes) (near_message_near h s nodes ys listed t).1 in
      absurd (omega (arith, close, ap (differ ys) (held t))))
      (λ t. t)

  -- or it is no word
  says_none : is_word h c.word ≡ false → has_near_message h nodes ys ≡ false
  says_none w =
      by_test (has_near_message h nodes ys)
      (λ t. absurd (true≢false (sym ((words_encode h s c.word c.long c.below).1 (near_message h nodes ys, (near_message_near h s nodes ys listed t).0, own t)) ∙ w)))
      (λ t. t)

  -- or it is the word of the nearest message
  says_near : differ ys right ≤ listed_radius h nodes → is_word h c.word ≡ true → (has_near_message h nodes ys ≡ true) × (right ≡ at_nodes h (near_message h nodes ys) nodes)
  unfolding is_near_message
  says_near d w =
      let (ms, m, is) = (words_encode h s c.word c.long c.below).0 w in
      let at = picked h s nodes ys listed ms c.word array c.array_is c.long is in
      let near = near_message_is h s nodes ys listed ms m (le-leb (differ ys (at_nodes h ms nodes)) (listed_radius h nodes) (omega (arith, d, ap (differ ys) at))) in
      (near.0, at ∙ ap (λ (l : List ℕ). at_nodes h l nodes) (sym near.1))

  -- what a candidate near enough is, by the test whether it is a word
  pub says_found : (w : Bool) (out : List ℕ) → w ≡ is_word h c.word → out ≡ padded 255 right → differ ys right ≤ listed_radius h nodes → MatchOption (then_some w out) (has_near_message h nodes ys ≡ false) (λ out. (has_near_message h nodes ys ≡ true) × (out ≡ padded 255 (at_nodes h (near_message h nodes ys) nodes)))
  says_found true out t e d = let k = says_near d (sym t) in (k.0, e ∙ ap (padded 255) k.1)
  says_found false out t e d = says_none (sym t)
