-- `judge` meets its contract: the check sums and the coefficients' sums are parts of one spectrum.
use mathlib.Core.Path.{◌≡◌, sym, ap, ◌∙◌}
use mathlib.Core.Bool.{true}
use lib.ListN.{get_or, take}
use Rattle.lists.specs.Numbers.{all_below}
use Rattle.lists.proofs.Padding.{take_padded}
use Rattle.generator.specs.Codewords.{is_word}
use Rattle.generator.specs.Messages.{message_of}
use Rattle.generator.proofs.Answered.{passed, last}
use Rattle.refusals.specs.Faults.{stale_fault}
use Rattle.check_sums.proofs.OneLane.{word_sums}
use Rattle.spectrum.specs.Inner.Spectrum.{spectrum_of}
use Rattle.lane_message.proofs.Formula.{word_symbol}
use Rattle.lane_message.proofs.Numbers.{no_word_is, other_symbol_is}
use Rattle.lane_message.proofs.SpectrumParts.{length_spectrum, check_part, coefficients_are}
use Rattle.lane_message.proofs.rows.GeneratorRows.judge.Goals as goal
use Rattle.lane_message.proofs.rows.GeneratorRows.judge.Goals.{After-all_zero-word, After-spectrum-spectrum, After-symbol-symbol}

-- the word test
test : (c : After-all_zero-word) → let a = c.args in c.all_zero-word.result ≡ is_word a.self.transform.powers.codec.code.header a.self.transform.lane.now
test c =
    let h = c.args.self.transform.powers.codec.code.header in
    c.all_zero-word.ensures
    ∙ ap (all_below 1) (rw (c.spectrum-spectrum.ensures, c.checks-checks.ensures) (check_part h c.args.self.transform.lane.now c.args.self.transform.powers.codec.code.sound c.args.self.transform.powers.codec.code.sound.byte))
    ∙ word_sums h c.args.self.transform.lane.now

-- the spectrum, lent as a part
part : (c : After-spectrum-spectrum) → let a = c.args in take a.self.transform.powers.codec.code.header.n c.spectrum-spectrum.result ≡ spectrum_of a.self.transform.powers.codec.code.header a.self.transform.lane.now
part c =
    let a = c.args in
    rw c.spectrum-spectrum.ensures (take_padded 255 _ _ (length_spectrum a.self.transform.powers.codec.code.header a.self.transform.lane.now))

-- the symbol of a word's message
symbol : (c : After-symbol-symbol)
    → let a = c.args in
    is_word a.self.transform.powers.codec.code.header a.self.transform.lane.now ≡ true → c.symbol-symbol.result ≡ get_or (message_of a.self.transform.powers.codec.code.header a.self.transform.lane.now) a.r 0
symbol c word =
    let h = c.args.self.transform.powers.codec.code.header in
    let ws = c.args.self.transform.lane.now in
    c.symbol-symbol.ensures ∙ rw (part (goal.at.After-symbol-symbol c).After-spectrum-spectrum, coefficients_are h c.args.self.transform.powers.codec.code.sound ws) (word_symbol h c.args.self.transform.powers.codec.code.sound ws c.args.self.transform.long c.args.self.transform.below word c.args.r c.requires)

pub returns : goal.returns
unfolding stale_fault
returns c =
    let word = no_word_is _ _ _ (test (goal.at.returns c).After-all_zero-word) in
    passed _ _ word c.in_ok-when.ensures
    (last _ _ (other_symbol_is _ _ _ _ _ (sym word ∙ c.in_ok-when.ensures) (symbol (goal.at.returns c).After-symbol-symbol)) c.when-2.ensures)
