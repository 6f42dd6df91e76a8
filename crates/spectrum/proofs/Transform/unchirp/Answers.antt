-- `unchirp` meets its contract: each exponent is below n, and the power of its negative is read from the table. Invariant: the pairs from j on are left.
use mathlib.Core.Path.{refl, ap, ◌∙◌}
use Prim.Native.Nat.{◌%◌, ◌<◌}
use native.Mathlib.Nat.{mod-lt}
use native.Mathlib.Omega.{arith}
use lib.ListN.{length, get_or}
use Rattle.std.specs.Iterator.Adapters.{enumerate_source, zip_first, zip_second}
use Rattle.std.specs.Slice.Iter.{iter_rest}
use Rattle.std.proofs.lemmas.Slice.Zip.{either_empty_from_Zip}
use Rattle.lists.specs.Padded.{zeros, padded}
use Rattle.lists.proofs.Fill.{filled_start, filled_put, filled_end}
use Rattle.lists.proofs.Numbers.{below_at}
use Rattle.lists.proofs.Rows.{from_ext}
use Rattle.lists.proofs.Paired.{PairedTurn, paired_turn}
use Rattle.field.specs.Fields.{mul}
use Rattle.field.proofs.Bounds.{power_below}
use Rattle.generator.specs.Records.{modulus_of, size}
use Rattle.generator.proofs.LaidShifts.{negative_below}
use Rattle.check_sums.proofs.Sums.{power_place, power_at}
use Rattle.spectrum.specs.Inner.Spectrum.{triangle, unchirped_at, unchirped}
use Rattle.spectrum.proofs.Arrays.{listed_at, shorter_end}
use Rattle.spectrum.proofs.Transform.unchirp.Invariants.{read}
use Rattle.spectrum.proofs.Transform.unchirp.Goals as goal
use Rattle.spectrum.proofs.Transform.unchirp.Goals.{After-negative-e, In-Some}

-- the pair of this turn
turn : (c : In-Some) →
    let pairs = enumerate_source c.next.new.self in
    PairedTurn c.args.symbols.now c.args.exponents.now c.in-Some.j c.in-Some.field-0-1-0.now c.in-Some.field-0-1-1.now (iter_rest (zip_first pairs)) (iter_rest (zip_second pairs))
turn c =
    let steps = c.in-Some.ensures.steps in
    paired_turn (rw (← steps.1) at c.loop-j.invariant.0) steps.0

-- the power that is read, a symbol
power-is : (c : After-negative-e)
    → let a = c.args in
    (c.negative-e.result < length a.self.powers.list.now) × (get_or a.self.powers.list.now c.negative-e.result 0 < size a.self.powers.codec.code.header)
power-is c =
    (rw c.args.self.powers.are (power_place c.args.self.powers.codec.code.header _ c.negative-e.ensures.1), rw (c.args.self.powers.are, power_at c.args.self.powers.codec.code.header _ c.negative-e.ensures.1) (power_below _ c.args.self.powers.codec.code.sound.field _ c.args.self.powers.codec.code.sound.root_below))

pub loop-j-init : goal.loop-j-init
unfolding zeros
loop-j-init c =
    let same = c.into_iter-j-iterator.ensures.into_iter_gives in
    let all = c.enumerate-j-items.ensures in
    rw (same, all.source, all.count) (record { first = search; second = search }, filled_start 255 _ _ c.requires.2)

pub negative-e-requires : goal.negative-e-requires
negative-e-requires c =
    let h = c.args.self.powers.codec.code.header in
    let here = turn (goal.at.negative-e-requires c).In-Some in
    rw (here.other_is, listed_at (λ x. triangle x % h.n) _ c.in-Some.j c.requires.0 here.other_inside) (mod-lt _ (omega (arith, c.args.self.powers.codec.code.sound.two)))

pub bounds-powers-e : goal.bounds-powers-e
bounds-powers-e c = (power-is (goal.at.bounds-powers-e c).After-negative-e).0

pub mul-requires : goal.mul-requires
mul-requires c =
    let here = turn (goal.at.mul-requires c).In-Some in
    rw c.args.self.powers.codec.same (rw here.is (below_at _ _ c.requires.3 _ here.inside), (power-is (goal.at.mul-requires c).After-negative-e).1)

pub loop-j-preserved : goal.loop-j-preserved
loop-j-preserved c =
    let steps = c.in-Some.ensures.steps in
    let here = turn (goal.at.loop-j-preserved c).In-Some in
    rw (steps.2, ← steps.1) (here.next, filled_put (rw (← steps.1) at c.loop-j.invariant.1) here.inside (c.mul.ensures.is ∙ rw (c.negative-e.ensures.0, here.is, here.other_is)))

pub returns : goal.returns
unfolding unchirped unchirped_at
returns c =
    let a = c.args in
    let l = c.loop-j.invariant in
    let end = shorter_end l.0 c.requires.1 (either_empty_from_Zip (enumerate_source c.loop-j.j-iterator) (enumerate_source c.next.new.self) _ refl c.in-None.ensures.steps.0) in
    rw c.args.self.powers.codec.same at (filled_end l.1 end)
    ∙ ap (padded 255)
    (from_ext (read (modulus_of a.self.powers.codec.code.header) a.self.powers.codec.code.header.n a.self.powers.list.now a.exponents.now a.symbols.now) (unchirped_at a.self.powers.codec.code.header a.symbols.now) 0 (length a.symbols.now)
    (λ j low high. let small : triangle j % a.self.powers.codec.code.header.n < a.self.powers.codec.code.header.n = mod-lt _ (omega (arith, c.args.self.powers.codec.code.sound.two)) in
    rw (c.args.self.powers.are, listed_at (λ x. triangle x % a.self.powers.codec.code.header.n) a.exponents.now j c.requires.0 (omega (arith, c.requires.1)))
    (ap (mul (modulus_of a.self.powers.codec.code.header) (get_or a.symbols.now j 0)) (power_at a.self.powers.codec.code.header _ (negative_below a.self.powers.codec.code.header.n (triangle j % a.self.powers.codec.code.header.n) (omega (arith, c.args.self.powers.codec.code.sound.two)))))))
