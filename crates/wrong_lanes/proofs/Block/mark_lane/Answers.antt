-- `mark_lane` meets its contract: the lane's symbols are the whole block.
use mathlib.Core.Path.{◌≡◌, refl, ap, ◌∙◌}
use mathlib.Core.Bool.{Bool, true, false, not}
use mir.Val.{bool_byte}
use native.Mathlib.Nat.{mul-one}
use native.Mathlib.Omega.{arith}
use lib.ListN.{length, take, set, length-set}
use lib.Seq.{get_or-set_same}
use Rattle.lists.specs.Choice.{pick}
use Rattle.lists.proofs.Padding.{take_padded}
use Rattle.layout.specs.Width.{symbols_of}
use Rattle.layout.proofs.Places.{share_by_lane}
use Rattle.generator.specs.Records.{width}
use Rattle.wrong_lanes.proofs.Marking.{one_mark}
use Rattle.wrong_lanes.proofs.Block.mark_lane.Goals as goal
use Rattle.wrong_lanes.proofs.Block.mark_lane.Goals.{After-read_symbols-values, Start}

-- a word has the mark 0
marked_byte : (word : Bool) → bool_byte (not word) ≡ pick word 0 1
marked_byte true = refl
marked_byte false = refl

-- there is a symbol for each node
long : (c : Start) → let h = c.args.self.code.header in length (symbols_of (width h) c.args.self.shares.now) ≡ h.n
long c =
    let b = c.args.self in
    (rw c.requires.0 at b.symbols.symbol_rows.long) ∙ mul-one b.code.header.n

-- they are what is lent
taken : (c : After-read_symbols-values) → let h = c.args.self.code.header in take h.n c.read_symbols-values.result ≡ symbols_of (width h) c.args.self.shares.now
taken c = rw (c.read_symbols-values.ensures, c.width_of.ensures) (take_padded 255 _ _ (long (goal.at.After-read_symbols-values c).Start))

pub invariant_of-lane : goal.invariant_of-lane
invariant_of-lane c = rw (c.new-rows.ensures, taken (goal.at.invariant_of-lane c).After-read_symbols-values) record { long = long (goal.at.invariant_of-lane c).Start; below = c.args.self.symbols.symbol_rows.symbols }

pub returns : goal.returns
returns c =
    let h = c.args.self.code.header in
    let marks = c.args.marks.now in
    let x = c.from.result in
    let told = rw (c.new-rows.ensures, taken (goal.at.returns c).After-read_symbols-values) at c.is_word.ensures in
    rw (share_by_lane, c.requires.0)
    (one_mark h (symbols_of (width h) c.args.self.shares.now) (set marks 0 x) (long (goal.at.returns c).Start) (length-set marks 0 x ∙ c.requires.1)
    (get_or-set_same marks 0 x 0 (omega (arith, c.requires.1)) ∙ c.from.ensures ∙ marked_byte c.is_word.result ∙ ap (λ b. pick b 0 1) told))
