-- `write_node` meets its contract: the entries of a node are the weights of the first k nodes.
use Prim.Native.Nat.{ℕ}
use native.Mathlib.Omega.{arith}
use Rattle.std.proofs.lemmas.List.{map-id}
use Rattle.generator.proofs.PlainLayout.{first_nodes}
use Rattle.text.specs.Text.{ascii, fields, line}
use Rattle.text.proofs.Written.{writes_then}
use Rattle.plain_text.specs.Plain.{entries_line, node_line}
use Rattle.plain_text.proofs.Entries.{entries_weights}
use Rattle.plain_text.proofs.PlainLayout.write_node.Goals as goal

pub rebuild_weights-weights-requires : goal.rebuild_weights-weights-requires
rebuild_weights-weights-requires c =
    let s = c.args.self.now in
    let h = s.code.header in
    (rw (c.deref.ensures.0, s.listed) (first_nodes h s.code.sound), rw c.from.ensures c.requires.node)

pub returns-clause-text : goal.returns-clause-text
unfolding node_line entries_line line fields ascii
returns-clause-text c =
    let s = c.args.self.now in
    let h = s.code.header in
    let weights = c.rebuild_weights-weights in
    let given = rw (c.deref.ensures.0, s.listed, c.from.ensures) at weights.ensures in
    let entries = entries_weights h s.code.sound c.args.j c.requires.node weights.result (omega arith) given in
    writes_then c.word.ensures (writes_then c.field.ensures.text (rw (map-id {A = ℕ} _, c.from-k.ensures, ← entries) at c.fields.ensures.text))
