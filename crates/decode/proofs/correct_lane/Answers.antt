-- `correct_lane` meets its contract: the candidate is near enough and a word, or no word is.
use mathlib.Core.Path.{◌≡◌, ap, ◌∙◌}
use borrow.Author.Tests.{lt-leb}
use lib.ListN.{take}
use Rattle.lists.proofs.Padding.{take_padded}
use Rattle.lists.specs.Counting.{differ}
use Rattle.nearest_word.specs.Nearest.{radius}
use Rattle.decode.specs.Inner.Candidates.{SoundLane, Candidate}
use Rattle.decode.proofs.Verdict.{says_found, says_far}
use Rattle.decode.proofs.correct_lane.Goals as goal
use Rattle.decode.proofs.correct_lane.Goals.{Start, After-candidate-word, After-differing-altered, then-altered-t, else-altered-t}

-- the lane, as the proofs take it
sound : (c : Start) → SoundLane c.args.lane.rows.code.header c.args.lane.symbols.now
sound c = let a = c.args.lane in record { sound = a.rows.code.sound; long = a.long; below = a.below }

-- the candidate
near : (c : After-candidate-word) → Candidate c.args.lane.rows.code.header c.args.lane.symbols.now c.candidate-word.result
near c = c.candidate-word.ensures

-- the first n places of the candidate are its word
word : (c : After-candidate-word) → take c.args.lane.rows.code.header.n c.candidate-word.result ≡ (near c).word
word c = let k = near c in ap (take c.args.lane.rows.code.header.n) k.array_is ∙ take_padded 255 _ k.word k.long

-- at how many nodes the candidate differs
distance : (c : After-differing-altered) → c.differing-altered.result ≡ differ c.args.lane.symbols.now (near (goal.at.After-differing-altered c).After-candidate-word).word
distance c = rw (word (goal.at.After-differing-altered c).After-candidate-word) at c.differing-altered.ensures

pub invariant_of-nearest : goal.invariant_of-nearest
invariant_of-nearest c =
    let k = near (goal.at.invariant_of-nearest c).After-candidate-word in
    rw (word (goal.at.invariant_of-nearest c).After-candidate-word) record { long = k.long; below = k.below }

pub returns : goal.returns
unfolding radius
returns c =
    let h = c.args.lane.rows.code.header in
    let ws = c.args.lane.symbols.now in
    let array = c.candidate-word.result in
    let k = near (goal.at.returns c).After-candidate-word in
    let s = sound (goal.at.returns c).Start in
    let d = distance (goal.at.returns c).After-differing-altered in
    rw c.then_some.ensures (elim c.if-altered-t.branch [
      | then-altered-t w ↦ rw w.then_some-is (says_found h ws array s k _ _ (rw (word (goal.at.returns c).After-candidate-word) at w.is_word.ensures) d (rw c.checks-t.ensures at w.if-altered-t.true))
      | else-altered-t w ↦ rw (w.then_some-is, lt-leb _ _ w.if-altered-t.false) (says_far h ws array s k (rw (← d, ← c.checks-t.ensures) w.if-altered-t.false))
    ])
