-- `has_bytes` meets its contract, by the width of a symbol.
use Rattle.std.proofs.Common.{◌≡◌, ap, ◌∙◌, arith}
use mathlib.Core.Logic.{by_cases}
use native.Mathlib.Decide.{dec_lt}
use borrow.Author.Tests.{le-leb}
use Rattle.std.proofs.lemmas.Bool.{and_from}
use Rattle.field.specs.declared.prime.PrimeField.{PrimeField}
use Rattle.field.specs.declared.Field.TheVariants.{Prime}
use Rattle.field.specs.Kinds.{modulus, usable}
use Rattle.field.specs.Widths.{bytes_for}
use Rattle.tile_products.proofs.Arms.{prime_one, prime_two}
use Rattle.tile_products.proofs.primes.Prime.has_bytes.Goals as goal
use Rattle.tile_products.proofs.primes.Prime.has_bytes.Goals.{After-width}

pub width-requires : goal.width-requires
unfolding usable
width-requires c = let m = c.args.self in rw c.new.ensures (and_from _ _ (le-leb m.p 65521 m.fits) m.prime)

width_is : (c : After-width) → c.width.result ≡ bytes_for c.args.self.p
unfolding modulus
width_is c = c.width.ensures ∙ ap (λ (f : PrimeField). bytes_for (modulus (Prime f))) c.new.ensures

pub returns : goal.returns
returns c =
    let m = c.args.self in
    let is = width_is (goal.at.returns c).After-width in
    by_cases (dec_lt 256 m.p) (λ many. rw (is, prime_two m.p m.prime many) many) (λ few. rw (is, prime_one m.p m.prime (omega arith)) (omega arith))
