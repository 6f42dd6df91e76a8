-- `is_multiple` meets its contract. Invariant: the search from 0 on is the search from j on.
use mathlib.Core.Path.{◌≡◌, sym, ap, ◌∙◌}
use Prim.Native.Nat.{ℕ}
use native.Mathlib.Nat.{sub-zero}
use native.Mathlib.Omega.{arith}
use borrow.Author.Tests.{not-true, not-false, eq-eqb, ne_eqb}
use lib.Dec.{eqb}
use lib.ListN.{get_or}
use Rattle.lists.proofs.Search.{search_next, search_found, search_end}
use Rattle.field.specs.Fields.{mul}
use Rattle.generator.specs.Records.{modulus_of}
use Rattle.generator.specs.Generator.{entry}
use Rattle.generator.proofs.Bounds.{entry_below}
use Rattle.plan.proofs.Plans.{shift_below, base_room, entry_read}
use Rattle.find_update.specs.Inner.Starts.{first_other, is_multiple}
use Rattle.find_update.proofs.compare.LaneDifference.is_multiple.Invariants.{same}
use Rattle.find_update.proofs.compare.LaneDifference.is_multiple.Goals as goal
use Rattle.find_update.proofs.compare.LaneDifference.is_multiple.Goals.{After-entry_at-entry, After-is_product}

-- the entry that is read is the generator's
read : (c : After-entry_at-entry)
    → c.entry_at-entry.result ≡ entry c.args.self.codec.code.header c.args.row c.loop-j.j
read c =
    let sound = c.args.self.codec.code.sound in
    let (row, factor) = c.requires in
    c.entry_at-entry.ensures ∙ rw c.args.self.planned (entry_read _ sound _ _ row c.loop-j-test.true)

-- so the test is the comparison
compared : (c : After-is_product)
    → let a = c.args in
    c.is_product.result ≡ same a.self.codec.code.header a.self.symbols.now a.row a.x c.loop-j.j
compared c =
    let a = c.args in
    c.is_product.ensures ∙ rw c.args.self.codec.same (ap (λ (e : ℕ). eqb (get_or a.self.symbols.now c.loop-j.j 0) (mul (modulus_of a.self.codec.code.header) a.x e)) (read (goal.at.After-is_product c).After-entry_at-entry))

pub loop-j-init : goal.loop-j-init
unfolding first_other
loop-j-init c = rw sub-zero

pub entry_at-entry-requires : goal.entry_at-entry-requires
entry_at-entry-requires c =
    let sound = c.args.self.codec.code.sound in
    let (row, factor) = c.requires in
    (omega arith, rw c.args.self.planned (shift_below _ sound _ row), c.loop-j-test.true, rw c.args.self.planned (base_room _))

pub is_product-requires : goal.is_product-requires
is_product-requires c =
    let sound = c.args.self.codec.code.sound in
    let (row, factor) = c.requires in
    rw c.args.self.codec.same (factor, rw (read (goal.at.is_product-requires c).After-entry_at-entry) (entry_below _ sound _ _))

pub returns-then-not-is_product : goal.returns-then-not-is_product
unfolding is_multiple
returns-then-not-is_product c =
    let found = c.loop-j.invariant ∙ search_found _ _ _ c.loop-j-test.true (sym (compared (goal.at.returns-then-not-is_product c).After-is_product) ∙ not-true _ c.if-not-is_product.true-raw) in
    sym (rw found (ne_eqb _ _ (omega (arith, c.loop-j-test.true))))

pub loop-j-preserved : goal.loop-j-preserved
loop-j-preserved c =
    c.loop-j.invariant ∙ search_next _ _ _ c.loop-j-test.true (sym (compared (goal.at.loop-j-preserved c).After-is_product) ∙ not-false _ c.if-not-is_product.false-raw)

pub returns : goal.returns
unfolding is_multiple
returns c =
    let end : c.args.self.codec.code.header.n ≡ c.loop-j.j = omega (arith, c.loop-j.auto.j-end, c.loop-j-test.false) in
    sym (eq-eqb _ _ (c.loop-j.invariant ∙ search_end _ _ _ c.loop-j-test.false ∙ sym end))
