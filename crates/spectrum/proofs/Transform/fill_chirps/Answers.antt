-- `fill_chirps` meets its contract. Invariant: the powers below x are written.
use mathlib.Core.Path.{refl, ◌∙◌}
use Prim.Native.Nat.{◌%◌, ◌≤◌, ◌<◌}
use native.Mathlib.Nat.{mod-lt}
use native.Mathlib.Omega.{arith}
use lib.ListN.{length, get_or}
use Rattle.lists.proofs.Parts.{valued_all}
use Rattle.lists.proofs.Rows.{from_ext}
use Rattle.sliding_sums.proofs.Valued.{valued_next}
use Rattle.check_sums.proofs.Sums.{power_place, power_at}
use Rattle.spectrum.specs.Inner.Spectrum.{triangle, chirp_at}
use Rattle.spectrum.proofs.Arrays.{listed_at}
use Rattle.spectrum.proofs.Transform.fill_chirps.Invariants.{read}
use Rattle.spectrum.proofs.Transform.fill_chirps.Goals as goal

pub bounds-powers-exponent : goal.bounds-powers-exponent
bounds-powers-exponent c =
    let a = c.args in
    let h = a.self.powers.codec.code.header in
    let place : get_or a.exponents.now c.loop-x.x 0 < h.n = rw (listed_at (λ x. triangle x % h.n) a.exponents.now c.loop-x.x c.requires.0 c.loop-x-test.true) (mod-lt _ (omega (arith, a.self.powers.codec.code.sound.two))) in
    rw a.self.powers.are (power_place h _ place)

pub loop-x-preserved : goal.loop-x-preserved
loop-x-preserved c = valued_next _ _ c.loop-x.invariant (omega (arith, c.requires.1, c.loop-x-test.true)) (omega arith) refl

pub returns : goal.returns
unfolding chirp_at
returns c =
    let a = c.args in
    let h = a.self.powers.codec.code.header in
    let all : length a.row.now ≤ c.loop-x.x = omega (arith, c.requires.1, c.loop-x-test.false) in
    valued_all _ _ c.loop-x.invariant all all
    ∙ from_ext (read a.self.powers.list.now a.exponents.now) (chirp_at h) 0 (length a.row.now)
    (λ x low high. rw (a.self.powers.are, listed_at (λ x. triangle x % h.n) a.exponents.now x c.requires.0 (omega (arith, c.requires.1))) (power_at h _ (mod-lt _ (omega (arith, a.self.powers.codec.code.sound.two)))))
