-- `high_reads` meets its contract: a quotient rounded up is that of the number with n − 1 more.
use Rattle.std.proofs.Common.{ℕ, ◌≡◌, ◌+◌, ◌-◌, ◌/◌, ◌%◌, ◌<◌, min, sym, refl, ◌∙◌, arith}
use Rattle.std.proofs.Math.Nat.{div-eq_of_lt-le, div-lt_iff_lt-mul}
use Rattle.std.proofs.lemmas.Grind.{div_ceil_times}
use Rattle.generator.specs.Records.{high_reads}
use Rattle.records.proofs.sizes.high_reads.Goals as goal
use Rattle.records.proofs.sizes.high_reads.Goals.{After-div_ceil}

-- rounded up, by the definition of the costs
rounded_up : (x n : ℕ) → 0 < n → x / n + min 1 (x % n) ≡ (x + (n - 1)) / n
rounded_up x n some =
    let c = x / n + min 1 (x % n) in
    let near = div_ceil_times x n some in
    let same : (x + (n - 1)) / n ≡ c = div-eq_of_lt-le n (omega (arith, near.1, some)) (omega (arith, near.0, some)) in
    sym same

positive : (c : After-div_ceil) → 0 < c.args.code.header.n
positive c = let s = c.args.code.sound in omega (arith, s.some, s.fits)

pub overflow_cast-result : goal.overflow_cast-result
overflow_cast-result c =
    let n = c.args.code.header.n in
    let x = c.entries.result in
    let few : (x + (n - 1)) / n < 256 = (div-lt_iff_lt-mul (positive c)).1 (omega (arith, c.entries.ensures.1, positive c)) in
    omega (arith, few, c.div_ceil.ensures, rounded_up x n (positive c))

pub returns : goal.returns
unfolding high_reads
returns c =
    c.div_ceil.ensures ∙ rounded_up c.entries.result c.args.code.header.n (positive c) ∙ rw c.entries.ensures.0 refl
