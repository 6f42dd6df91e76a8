-- `write_nearest` meets its contract: a word stays, and any other lane is decoded and written.
use mathlib.Core.Path.{◌≡◌, sym, ◌∙◌}
use native.Mathlib.Omega.{arith}
use lib.ListN.{take}
use Rattle.lists.specs.Counting.{differ}
use Rattle.lists.specs.Padded.{padded}
use Rattle.lists.proofs.Numbers.{at_below}
use Rattle.layout.specs.Width.{symbols_of}
use Rattle.generator.specs.Records.{width}
use Rattle.nearest_word.specs.Nearest.{corrected}
use Rattle.correct.proofs.LaneSymbols.{word_front, word_fits, word_bytes, marked_stays, far_stays, stays_count, stays_bytes}
use Rattle.correct.proofs.lane.Marked.write_nearest.Goals as goal
use Rattle.correct.proofs.lane.Marked.write_nearest.Goals.{Else-self-t-eq0, In-Some}

pub returns-then-self-t-eq0 : goal.returns-then-self-t-eq0
returns-then-self-t-eq0 c =
    let m = c.requires.1 in
    let stays = marked_stays m c.if-self-t-eq0.true in
    (sym (stays_bytes m stays (at_below 256 _ (λ i h. omega (arith, c.type_inv.lane i)))), sym (stays_count m stays))

-- the word that was found, and how many symbols differ
decoded : (c : In-Some)
    → let h = c.args.self.rows.code.header in
    let ws = symbols_of (width h) c.args.lane.now in
    (c.in-Some.found.lane ≡ padded 255 (corrected h ws)) × (c.in-Some.found.altered ≡ differ ws (corrected h ws))
decoded c = (c.in-Some.ensures.1, c.in-Some.ensures.2)

word : (c : In-Some) → let h = c.args.self.rows.code.header in take h.n c.in-Some.found.lane ≡ corrected h (symbols_of (width h) c.args.lane.now)
word c = word_front c.requires.1 _ (decoded c).0

pub write_symbols-requires : goal.write_symbols-requires
write_symbols-requires c =
    let w = c.width_of-w.ensures in
    rw (word (goal.at.write_symbols-requires c).In-Some) (rw w (word_fits c.requires.1), rw w (word_bytes c.requires.1))

pub returns-in-None : goal.returns-in-None
returns-in-None c =
    let m = c.requires.1 in
    let stays = far_stays m c.in-None.ensures in
    (sym (stays_bytes m stays (at_below 256 _ (λ i h. omega (arith, (goal.at.returns-in-None c).Else-self-t-eq0.type_inv.lane i)))), sym (stays_count m stays))

pub returns-in-Some : goal.returns-in-Some
returns-in-Some c =
    (c.write_symbols.ensures ∙ rw (word (goal.at.returns-in-Some c).In-Some, c.width_of-w.ensures), (decoded (goal.at.returns-in-Some c).In-Some).1)
