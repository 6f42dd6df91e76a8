-- `WordPrime::change_group` meets its contract: the mask is the group's first symbol, while it serves.
use mathlib.Core.Path.{◌≡◌, sym, ap, ap₂, ◌∙◌}
use mathlib.Core.List.{List}
use Prim.Native.Nat.{ℕ}
use native.Mathlib.Omega.{arith}
use lib.ListN.{get_or}
use Rattle.layout.specs.Width.{symbols_of, bytes_of}
use Rattle.layout.proofs.Widths.{length_symbols, get_or_symbols}
use Rattle.carrying.specs.Masks.{covered, opened}
use Rattle.carrying.specs.Changing.{part_replaced, mask_after}
use Rattle.carry.proofs.Changes.{changed_long, changed_is}
use Rattle.carry.proofs.prime.WordPrime.change_group.Goals as goal
use Rattle.carry.proofs.prime.WordPrime.change_group.Goals.{After-deref, After-deref-2}

-- its words, which are lent twice
words : (c : After-deref) → c.deref.result.now ≡ symbols_of 2 (part_replaced c.args.at c.args.part.now (bytes_of 2 (opened (symbols_of 2 c.args.group.now))))
words c = c.deref.ensures.0 ∙ c.changed_words-words.ensures

again : (c : After-deref-2) → c.deref-2.result.now ≡ symbols_of 2 (part_replaced c.args.at c.args.part.now (bytes_of 2 (opened (symbols_of 2 c.args.group.now))))
again c = c.deref-2.ensures.0 ∙ c.changed_words-words.ensures

pub mask_after-c-requires : goal.mask_after-c-requires
mask_after-c-requires c =
    let group = c.args.group.now in
    let part = part_replaced c.args.at c.args.part.now (bytes_of 2 (opened (symbols_of 2 group))) in
    let long = changed_long c.args.at c.args.part.now group c.requires.0 c.requires.2 in
    rw (words (goal.at.mask_after-c-requires c).After-deref) (omega (arith, length_symbols 2 part, long, c.requires))

pub write_covered-requires : goal.write_covered-requires
write_covered-requires c =
    let group = c.args.group.now in
    let part = part_replaced c.args.at c.args.part.now (bytes_of 2 (opened (symbols_of 2 group))) in
    let long = changed_long c.args.at c.args.part.now group c.requires.0 c.requires.2 in
    rw (again (goal.at.write_covered-requires c).After-deref-2) (omega (arith, length_symbols 2 part, long, c.requires))

pub returns : goal.returns
returns c =
    let p = c.args.self.p in
    let group = c.args.group.now in
    let xs = symbols_of 2 group in
    let ws = symbols_of 2 (part_replaced c.args.at c.args.part.now (bytes_of 2 (opened xs))) in
    let count = length_symbols 2 group in
    let first : c.symbol_at.result ≡ get_or xs 0 0 = c.symbol_at.ensures ∙ sym (get_or_symbols 2 group 0 (omega (arith, c.requires))) in
    let mask : c.mask_after-c.result ≡ mask_after p (get_or xs 0 0) ws = c.mask_after-c.ensures ∙ ap₂ (mask_after p) first (words (goal.at.returns c).After-deref) in
    c.write_covered.ensures
    ∙ ap₂ (λ (m : ℕ) (l : List ℕ). bytes_of 2 (covered m l)) mask (again (goal.at.returns c).After-deref-2)
    ∙ ap (bytes_of 2) (sym (changed_is p c.args.at c.args.part.now xs (omega (arith, count, c.requires))))
