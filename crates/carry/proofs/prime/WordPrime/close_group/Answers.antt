-- `close_group` meets its contract: a mask that serves, and the words under it.
use mathlib.Core.Path.{◌≡◌, ap, ap₂, ◌∙◌}
use mathlib.Core.List.{List}
use Prim.Native.Nat.{ℕ}
use Rattle.layout.specs.Width.{bytes_of}
use Rattle.carrying.specs.Masks.{covered, mask_of, closed}
use Rattle.carrying.specs.Carrying.{words_of}
use Rattle.carrying.proofs.Bytes.{length_words}
use Rattle.carry.proofs.prime.WordPrime.close_group.Goals as goal
use Rattle.carry.proofs.prime.WordPrime.close_group.Goals.{After-deref, After-deref-2}

-- the words that are lent, twice
words : (c : After-deref) → c.deref.result.now ≡ words_of c.args.s.now
words c = c.deref.ensures.0 ∙ c.load_words-words.ensures

again : (c : After-deref-2) → c.deref-2.result.now ≡ words_of c.args.s.now
again c = c.deref-2.ensures.0 ∙ c.load_words-words.ensures

pub write_covered-requires : goal.write_covered-requires
write_covered-requires c = rw (again (goal.at.write_covered-requires c).After-deref-2, length_words c.args.s.now) c.requires.1

pub returns : goal.returns
unfolding closed
returns c =
    let ws = words_of c.args.s.now in
    let x = c.find_mask.result in
    let mask : x ≡ mask_of c.args.self.p ws = c.find_mask.ensures ∙ ap (mask_of c.args.self.p) (words (goal.at.returns c).After-deref) in
    c.write_covered.ensures ∙ ap₂ (λ (m : ℕ) (l : List ℕ). bytes_of 2 (covered m l)) mask (again (goal.at.returns c).After-deref-2)
