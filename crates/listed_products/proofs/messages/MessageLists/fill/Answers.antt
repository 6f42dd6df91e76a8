-- `fill` meets its contract: the sums are the message of the first k symbols.
use Rattle.listed_products.specs.Inner.Shares.{message_row}
use Rattle.listed_products.proofs.Products.{messages_are, message_ready}
use Rattle.listed_products.proofs.messages.MessageLists.fill.Goals as goal

pub fill-requires : goal.fill-requires
fill-requires c =
    let v = c.args.self in
    rw c.product.ensures (message_ready v.code.sound v.listed c.requires.0 c.width_of-w.ensures c.requires.1 v.made)

pub returns : goal.returns
returns c =
    let v = c.args.self in
    messages_are v.code.sound v.listed c.requires.0 c.width_of-w.ensures c.product.ensures (c.fill.ensures (message_row v.code.header v.nodes.now) (rw c.product.ensures v.made.begun))
