-- `goes_up` meets its contract. Invariant: the pairs from e on are left, and the search from 0 on is the search from e on.
use mathlib.Core.Bool.{true, false}
use mathlib.Core.Path.{◌≡◌, sym, ap, ap₂, ◌∙◌}
use Prim.Native.Nat.{ℕ, ◌+◌, ◌-◌, ◌<◌}
use native.Mathlib.Omega.{arith}
use borrow.Author.Tests.{eq-eqb, ne_eqb}
use lib.Dec.{eqb}
use lib.ListN.{length, get_or, drop}
use Rattle.std.specs.Slice.Iter.{windows_rest, windows_size}
use Rattle.std.proofs.lemmas.Iterator.{window_more}
use Rattle.lists.specs.Search.{first_false}
use Rattle.lists.proofs.Numbers.{below_at}
use Rattle.lists.proofs.Search.{search_next, search_found, search_end}
use Rattle.mends.specs.Inner.BySums.{first_off, goes_up}
use Rattle.field.specs.Kinds.{modulus}
use Rattle.mends.proofs.changes.Received.goes_up.Invariants.{step}
use Rattle.mends.proofs.changes.Received.goes_up.Goals as goal
use Rattle.mends.proofs.changes.Received.goes_up.Goals.{In-Some}

-- the pair that comes, of the check sums e and e + 1
more : (c : In-Some) →
    let sums = c.args.self.sums.now in
    let s = windows_rest c.loop-pair.pair-iterator in
    let t = windows_rest c.next.new.self in
    let e = length sums - length s in
    (length t + 1 ≡ length s) × (t ≡ drop (length sums - length t) sums) × (e + 1 < length sums) × (get_or c.in-Some.pair.now 0 0 ≡ get_or sums e 0) × (get_or c.in-Some.pair.now 1 0 ≡ get_or sums (e + 1) 0)
more c =
    let sums = c.args.self.sums.now in
    let inv = c.loop-pair.invariant in
    let e = length sums - length (windows_rest c.loop-pair.pair-iterator) in
    let some : 0 < windows_size c.loop-pair.pair-iterator = omega (arith, inv.0) in
    let two : 1 < windows_size c.loop-pair.pair-iterator = omega (arith, inv.0) in
    let h = window_more sums c.loop-pair.pair-iterator c.next.new.self _ _ c.in-Some.is c.next.ensures.steps some inv.1 inv.2 in
    let first : e + 0 ≡ e = omega arith in
    (h.0, h.1, omega (arith, h.2, inv.0, inv.1), h.3 0 0 some ∙ ap (λ (x : ℕ). get_or sums x 0) first, h.3 1 0 two)

pub loop-pair-init : goal.loop-pair-init
unfolding first_off
loop-pair-init c =
    let a = c.args in
    let sums = a.self.sums.now in
    let it = c.into_iter-pair-iterator.result in
    let is = c.into_iter-pair-iterator.ensures.into_iter_gives in
    let rest : windows_rest it ≡ sums = rw is c.windows-pair-items.ensures.rest in
    let long : length (windows_rest it) ≡ length sums = ap length rest in
    let none : length sums - length (windows_rest it) ≡ 0 = omega (arith, long) in
    let left : length sums - 1 ≡ length sums - 1 - (length sums - length (windows_rest it)) = omega (arith, none) in
    let p = modulus a.self.powers.codec.field.field in
    (rw is c.windows-pair-items.ensures.size, omega (arith, long), rest ∙ ap (λ (i : ℕ). drop i sums) (sym none), omega (arith, long, a.self.summed.has.some), ap₂ (λ (f t : ℕ). first_false f t (step p a.c sums)) left (sym none))

pub is_product-requires : goal.is_product-requires
is_product-requires c =
    let m = more (goal.at.is_product-requires c).In-Some in
    rw (m.3, c.args.self.powers.codec.same) (c.requires, below_at _ _ c.args.self.summed.has.symbols _ (omega (arith, m.2)))

pub returns-then-not-is_product : goal.returns-then-not-is_product
unfolding goes_up
returns-then-not-is_product c =
    let a = c.args in
    let m = more (goal.at.returns-then-not-is_product c).In-Some in
    let sums = a.self.sums.now in
    let e = length sums - length (windows_rest c.loop-pair.pair-iterator) in
    let test : step (modulus a.self.powers.codec.field.field) a.c sums e ≡ false = sym (rw (m.3, m.4) at c.is_product.ensures) ∙ c.if-not-is_product.true in
    let inside : e < length sums - 1 = omega (arith, m.2) in
    let found = rw a.self.powers.codec.same at (c.loop-pair.invariant.4 ∙ search_found _ _ _ inside test) in
    sym (ap (λ (x : ℕ). eqb x (length sums - 1)) found ∙ ne_eqb _ _ (omega (arith, inside)))

pub loop-pair-preserved : goal.loop-pair-preserved
loop-pair-preserved c =
    let a = c.args in
    let m = more (goal.at.loop-pair-preserved c).In-Some in
    let inv = c.loop-pair.invariant in
    let sums = a.self.sums.now in
    let t = windows_rest c.next.new.self in
    let e = length sums - length (windows_rest c.loop-pair.pair-iterator) in
    let f = step (modulus a.self.powers.codec.field.field) a.c sums in
    let test : f e ≡ true = sym (rw (m.3, m.4) at c.is_product.ensures) ∙ c.if-not-is_product.false in
    let inside : e < length sums - 1 = omega (arith, m.2) in
    let next : e + 1 ≡ length sums - length t = omega (arith, m.0, m.2, inv.1) in
    (c.next.ensures.steps.0 ∙ inv.0, omega (arith, m.0, inv.1), m.1, omega (arith, m.0, m.2, inv.1), inv.4 ∙ search_next _ _ _ inside test ∙ ap (λ (x : ℕ). first_false (length sums - 1 - x) x f) next)

pub returns : goal.returns
unfolding goes_up
returns c =
    let a = c.args in
    let inv = c.loop-pair.invariant in
    let sums = a.self.sums.now in
    let last : length sums - length (windows_rest c.loop-pair.pair-iterator) ≡ length sums - 1 = omega (arith, c.in-None.ensures.steps.1.0, inv.0, inv.1, inv.3) in
    sym (eq-eqb _ _ (rw a.self.powers.codec.same at (inv.4 ∙ search_end _ _ _ (omega (arith, last))) ∙ last))
