-- What holds where no number of what the call is given is met.
use mathlib.Core.Path.{◌≡◌, ◌∙◌}
use mathlib.Core.Bool.{false}
use mathlib.Core.List.{List}
use Prim.Native.Nat.{ℕ, ◌*◌, ◌≤◌}
use borrow.Author.Tests.{ltb-false}
use lib.Dec.{ltb}
use lib.ListN.{length}
use Rattle.std.proofs.lemmas.Bool.{or_parts}
use Rattle.lists.proofs.Cases.{when_zero}
use Rattle.layout.proofs.LaneParts.{lanes_long}
use Rattle.generator.specs.declared.Header.{Header}
use Rattle.generator.specs.Records.{width}
use Rattle.refusals.specs.Conditions.{lanes_bad, length_bad, nodes_bad, twice_bad, symbols_bad}
use Rattle.refusals.specs.Faults.{list_fault}
use Rattle.refusals.proofs.NotMet.{lanes_good, length_good, nodes_good, twice_good, symbols_good}
use Rattle.refusals.proofs.Accepts.{not_met}
use Rattle.listed_products.specs.Inner.Shares.{ListedNodes, ListedBytes}
use Rattle.correct_listed.specs.Promise.{count_bad, listed_fault}

-- from k to n nodes
pub count_good : (h : Header) (count : ℕ) → count_bad h count ≡ false → (h.k ≤ count) × (count ≤ h.n)
unfolding count_bad
count_good h count e = let (few, many) = or_parts (ltb count h.k) (ltb h.n count) e in (ltb-false count h.k few, ltb-false h.n count many)

pub listed_accepts : (h : Header) (l : ℕ) (nodes shares : List ℕ) (out counts : ℕ) → listed_fault h l nodes shares out counts ≡ 0 → ListedNodes h nodes × ListedBytes h l nodes shares × (out ≡ width h * h.k * l) × (counts ≡ length nodes)
unfolding listed_fault list_fault
listed_accepts h l nodes shares out counts e =
    let (seven, a) = not_met (lanes_bad l) 6 _ e in
    let (count, b) = not_met (count_bad h (length nodes)) 7 _ a in
    let (eight, c) = not_met (length_bad (length nodes * l * width h) (length shares)) 7 _ b in
    let (written, d) = not_met (length_bad (h.k * l * width h) out) 7 _ c in
    let (places, f) = not_met (length_bad (length nodes) counts) 7 _ d in
    let (nine, g) = not_met (nodes_bad h nodes) 8 _ f in
    let (ten, i) = not_met (twice_bad nodes) 9 _ g in (
      record { low = nodes_good h nodes nine; different = twice_good nodes ten; enough = (count_good h (length nodes) count).0 },
      record {
        few_lanes = (lanes_good l seven).1;
        bytes = length_good (length nodes * l * width h) (length shares) eight ∙ lanes_long (width h) (length nodes) l;
        symbols = symbols_good h shares (when_zero (symbols_bad h shares) 10 i);
      },
      length_good (h.k * l * width h) out written ∙ lanes_long (width h) h.k l,
      length_good (length nodes) counts places,
    )
