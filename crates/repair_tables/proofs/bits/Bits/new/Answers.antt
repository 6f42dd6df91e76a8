-- `Bits::new` meets its contract.
use mathlib.Core.Path.{◌≡◌}
use mathlib.Core.Bool.{true, false}
use Prim.Native.Nat.{ℕ}
use native.Mathlib.Omega.{arith}
use borrow.Author.Tests.{ne_eqb}
use lib.Dec.{eqb}
use Rattle.field.specs.Kinds.{modulus}
use Rattle.field.specs.Primes.{is_prime}
use Rattle.field.proofs.KindLaws.{usable_prime}
use Rattle.field.proofs.Primes.{two≤prime}
use Rattle.traces.specs.Repairs.{bits}
use Rattle.repair_tables.proofs.bits.Bits.new.Goals as goal

other_kind : (p : ℕ) → is_prime p ≡ true → eqb p 0 ≡ false
other_kind p h = ne_eqb p 0 (λ z. omega (arith, two≤prime p h))

pub returns-in-Prime : goal.returns-in-Prime
unfolding bits modulus
returns-in-Prime c =
    let e = c.in-Prime.is in
    let u = usable_prime _ (rw e at c.args.code.sound.usable_field) in
    rw (e, other_kind _ u.1)

pub returns-in-Binary : goal.returns-in-Binary
unfolding bits modulus
returns-in-Binary c = rw c.in-Binary.is (rw (c.saturating_sub.ensures, c.checks-r.ensures) at c.bits_for.ensures)
