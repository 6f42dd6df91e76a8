-- `storage_of` meets its contract, over either kind of field.
use Rattle.record_text.proofs.Storage.{binary_storage, prime_word, prime_storage}
use Rattle.record_text.proofs.storage_of.Goals as goal

pub group_words-m-requires : goal.group_words-m-requires
group_words-m-requires c = prime_word c.in-Prime.f (rw c.in-Prime.is at c.args.code.sound.usable_field)

pub returns-in-Binary : goal.returns-in-Binary
returns-in-Binary c =
    let (stored, image) = binary_storage c.args.code.header _ c.in-Binary.is in
    (rw c.from-n.ensures stored, rw c.from-k.ensures image)

pub returns-in-Prime : goal.returns-in-Prime
returns-in-Prime c =
    let (stored, image) = prime_storage c.args.code.header _ c.in-Prime.is (rw c.in-Prime.is at c.args.code.sound.usable_field) in
    (rw (c.from-n.ensures, c.group_words-m.ensures.0) stored, rw (c.from-k.ensures, c.group_words-m.ensures.0) image)
