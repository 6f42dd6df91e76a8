-- `near_symbols` meets its contract: the candidate is near enough and a word, or no message is near enough.
use mathlib.Core.Path.{◌≡◌, sym, ap, ◌∙◌}
use mathlib.Core.List.{map}
use native.Mathlib.Omega.{arith}
use borrow.Author.Tests.{lt-leb}
use lib.ListN.{length, get_or, take, length-map}
use Rattle.lists.proofs.Padding.{take_padded}
use Rattle.lists.specs.Counting.{differ}
use Rattle.near_message.specs.Nearest.{listed_radius}
use Rattle.decode_listed.specs.Inner.Candidates.{ListedCandidate}
use Rattle.decode_listed.proofs.NodeLists.{few_nodes, nodes_bytes}
use Rattle.decode_listed.proofs.Verdict.{says_found, says_far}
use Rattle.decode_listed.proofs.Received.near_symbols.Goals as goal
use Rattle.decode_listed.proofs.Received.near_symbols.Goals.{After-candidate-word, After-at_nodes-right, After-differing-altered, then-altered-t, else-altered-t}

-- the candidate
near : (c : After-candidate-word) → ListedCandidate c.args.self.rows.code.header c.args.self.nodes.now c.args.self.symbols.now c.candidate-word.result
near c = c.candidate-word.ensures

-- the first n places of the candidate are its word
word : (c : After-candidate-word) → take c.args.self.rows.code.header.n c.candidate-word.result ≡ (near c).word
word c = let k = near c in ap (take c.args.self.rows.code.header.n) k.array_is ∙ take_padded 255 _ k.word k.long

-- what it holds at the nodes
right : (c : After-at_nodes-right) → take (length c.args.self.nodes.now) c.at_nodes-right.result ≡ map (λ j. get_or c.candidate-word.result j 0) c.args.self.nodes.now
right c =
    let js = c.args.self.nodes.now in
    ap (take (length js)) c.at_nodes-right.ensures ∙ take_padded 255 (length js) _ (length-map js (λ j. get_or c.candidate-word.result j 0))

distance : (c : After-differing-altered) → c.differing-altered.result ≡ differ c.args.self.symbols.now (map (λ j. get_or c.candidate-word.result j 0) c.args.self.nodes.now)
distance c = rw (right (goal.at.After-differing-altered c).After-at_nodes-right) at c.differing-altered.ensures

pub at_nodes-right-requires : goal.at_nodes-right-requires
at_nodes-right-requires c =
    let a = c.args.self in
    (nodes_bytes a.rows.code.header a.rows.code.sound a.nodes.now a.symbols.now a.listed, few_nodes a.rows.code.header a.rows.code.sound a.nodes.now a.symbols.now a.listed)

pub slice_bounds-right-end : goal.slice_bounds-right-end
slice_bounds-right-end c =
    let a = c.args.self in
    let few = few_nodes a.rows.code.header a.rows.code.sound a.nodes.now a.symbols.now a.listed in
    omega arith

pub slice_bounds-differing-end : goal.slice_bounds-differing-end
slice_bounds-differing-end c =
    let js = c.args.self.nodes.now in
    omega (arith, ap length (right (goal.at.slice_bounds-differing-end c).After-at_nodes-right), length-map js (λ j. get_or c.candidate-word.result j 0))

pub differing-altered-requires : goal.differing-altered-requires
differing-altered-requires c =
    let js = c.args.self.nodes.now in
    rw (right (goal.at.differing-altered-requires c).After-at_nodes-right) (length-map js (λ j. get_or c.candidate-word.result j 0) ∙ sym c.args.self.listed.long)

pub invariant_of-found : goal.invariant_of-found
invariant_of-found c =
    let k = near (goal.at.invariant_of-found c).After-candidate-word in
    rw (word (goal.at.invariant_of-found c).After-candidate-word) record { long = k.long; below = k.below }

pub returns : goal.returns
unfolding listed_radius
returns c =
    let a = c.args.self in
    let h = a.rows.code.header in
    let array = c.candidate-word.result in
    let k = near (goal.at.returns c).After-candidate-word in
    let s = a.rows.code.sound in
    let d = distance (goal.at.returns c).After-differing-altered in
    rw c.then_some.ensures (elim c.if-altered-t.branch [
      | then-altered-t w ↦ rw w.then_some-is (says_found h s a.nodes.now a.symbols.now a.listed array k _ _ (rw (word (goal.at.returns c).After-candidate-word) at w.is_word.ensures) c.at_nodes-right.ensures (rw (← d) w.if-altered-t.true))
      | else-altered-t w ↦ rw (w.then_some-is, lt-leb _ _ w.if-altered-t.false) (says_far h s a.nodes.now a.symbols.now a.listed array k (rw (← d) w.if-altered-t.false))
    ])
