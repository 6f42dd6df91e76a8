-- `PrimeTerms::combine` meets its contract. The loop's invariant: acc holds the sums over the rows below i.
use mathlib.Core.Path.{sym, ◌∙◌}
use native.Mathlib.Omega.{arith}
use lib.ListN.{length}
use Rattle.lists.specs.Padded.{zeros}
use Rattle.lists.proofs.Numbers.{below_at}
use Rattle.field.specs.Fields.{size_of}
use Rattle.field.proofs.Meanings.{prime_field, prime_size}
use Rattle.row_sums.specs.Inner.Combined.{Weighted}
use Rattle.row_sums.proofs.Combined.{summed_none, summed_row, summed_all}
use Rattle.row_sums.proofs.prime.PrimeTerms.combine.Goals as goal
use Rattle.row_sums.proofs.prime.PrimeTerms.combine.Goals.{Start}

-- the weights and the symbols by the size of the field
sized : (c : Start) → let m = c.args.self in let t = m.terms in Weighted (size_of m.p) (length t.weights.now) t.lanes t.weights.now t.rows.now t.lanes
sized c = let m = c.args.self in rw (prime_size m.p m.prime) m.symbols

pub loop-i-init : goal.loop-i-init
unfolding zeros
loop-i-init c =
    let m = c.args.self in
    rw (c.fill.ensures.after (λ y e. e), c.requires) (summed_none m.p _ _ _ _ (prime_field _ m.prime) (sized (goal.at.loop-i-init c).Start))

pub add_scaled-requires : goal.add_scaled-requires
add_scaled-requires c =
    let l = c.loop-i in
    let m = c.args.self in (
      m.fits,
      below_at m.p m.terms.weights.now m.symbols.weights_below l.i c.loop-i-test.true,
      c.row.ensures.long ∙ sym l.invariant.long,
      rw (prime_size m.p m.prime) at l.invariant.symbols,
    )

pub loop-i-preserved : goal.loop-i-preserved
loop-i-preserved c =
    let l = c.loop-i in
    let m = c.args.self in
    rw (c.add_scaled.ensures, c.row.ensures.part)
    (summed_row m.p _ _ _ _ (prime_field _ m.prime) (sized (goal.at.loop-i-preserved c).Start) l.i c.loop-i-test.true l.acc l.invariant)

pub returns : goal.returns
returns c =
    let m = c.args.self in
    summed_all m.p _ _ _ _ (prime_field _ m.prime) (sized (goal.at.returns c).Start) c.loop-i.i c.loop-i.acc (omega arith) c.loop-i.invariant
