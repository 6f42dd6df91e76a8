-- `write_chosen` meets its contract, by the kind of record.
use mathlib.Core.Path.{◌≡◌, refl, sym, ap, ◌∙◌}
use mathlib.Core.List.{List, [], ◌∷◌, ◌++◌}
use Prim.Native.Nat.{ℕ, ◌/◌, ◌%◌, ◌<◌}
use native.Mathlib.Omega.{arith}
use borrow.Author.Tests.{eq-eqb, ne_eqb, eqb-false}
use lib.ListN.{drop, drop_of_length-le}
use Rattle.choose.specs.Table.{prime_for, root_for}
use Rattle.choose.specs.Promise.{chosen_record}
use Rattle.choose.proofs.Entries.{entries}
use Rattle.choose.proofs.write_chosen.Goals as goal

pub overflow_cast-root : goal.overflow_cast-root
overflow_cast-root c =
    let zero = sym c.entry_for-entry.ensures.prime ∙ c.if-p-eq0.true in
    let low : root_for c.args.n < 256 = entries c.args.n c.requires.0 (omega arith) (λ e entry. entry.below) (λ e entry. absurd (eqb-false (prime_for c.args.n) 0 e zero)) in
    omega (arith, low, c.entry_for-entry.ensures.root)

pub returns-then-p-eq0 : goal.returns-then-p-eq0
unfolding chosen_record
returns-then-p-eq0 c =
    let zero = eq-eqb (prime_for c.args.n) 0 (sym c.entry_for-entry.ensures.prime ∙ c.if-p-eq0.true) in
    rw zero (refl, ap (λ (front : List ℕ). front ++ drop 4 c.args.out.now) c.copy_from_slice.ensures.after ∙ ap (λ (x : ℕ). 2 ∷ x ∷ c.args.n ∷ c.args.k ∷ drop 4 c.args.out.now) c.entry_for-entry.ensures.root)

pub returns : goal.returns
unfolding chosen_record
returns c =
    let entry = c.entry_for-entry in
    let some = ne_eqb (prime_for c.args.n) 0 (λ e. c.if-p-eq0.false (entry.ensures.prime ∙ e)) in
    let none : drop 7 c.args.out.now ≡ [] = drop_of_length-le c.args.out.now {i = 7} (omega (arith, c.requires.1)) in
    let p_high : entry.result.prime / 256 % 256 ≡ entry.result.prime / 256 = omega arith in
    let root_high : entry.result.root / 256 % 256 ≡ entry.result.root / 256 = omega arith in
    rw (some, none, ← entry.ensures.prime, ← entry.ensures.root) (refl, rw (c.to_be_bytes.ensures, c.to_be_bytes-2.ensures, p_high, root_high) at c.copy_from_slice-2.ensures.after)
