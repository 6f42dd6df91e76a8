-- `chosen` meets its contract: the record for two bytes, and 4 for more or fewer.
use Rattle.record_text.proofs.Asking.{two_bytes, few_asked, many_asked, pair_asked}
use Rattle.record_text.proofs.chosen.Goals as goal

pub returns-in-len2 : goal.returns-in-len2
returns-in-len2 c =
    rw (two_bytes c.args.given.now c.in-len2.len_at_least c.in-len2.len_below, ← c.from.ensures, ← c.from-in-len2.ensures)
    (pair_asked _ _ _ _ c.told-room c.choose_record.result c.choose_record.ensures)

pub returns-in_default : goal.returns-in_default
returns-in_default c = few_asked c.args.given.now c.in_default.len_below

pub returns-in_default-2 : goal.returns-in_default-2
returns-in_default-2 c = many_asked c.args.given.now c.in_default.len_at_least
