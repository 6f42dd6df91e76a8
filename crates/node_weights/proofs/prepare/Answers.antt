-- `prepare` meets its contract.
use mathlib.Core.Path.{◌≡◌}
use Prim.Native.Nat.{◌-◌, ◌≤◌}
use native.Mathlib.Omega.{arith}
use lib.ListN.{length, take}
use Rattle.lists.proofs.Padding.{take_padded}
use Rattle.generator.specs.Records.{modulus_of}
use Rattle.generator.proofs.Recovery.{nodes_places}
use Rattle.interpolation.specs.Inner.Polynomials.{base_of}
use Rattle.node_weights.specs.Inner.Rows.{row_points, base_inverses, setup_of}
use Rattle.interpolation.proofs.Coefficients.{length_base_of, base_of_below}
use Rattle.node_weights.proofs.prepare.Goals as goal
use Rattle.node_weights.proofs.prepare.Goals.{After-base-base}

-- the base polynomial has k coefficients, at most 255, and so the array's part
part : (c : After-base-base)
    → let h = c.args.code.header in
    let cs = base_of (modulus_of h) h.root (h.k - 1) in
    (take h.k c.base-base.result ≡ cs) × (length cs ≡ h.k) × (h.k ≤ 255)
part c =
    let h = c.args.code.header in
    let s = c.args.code.sound in
    let size : length (base_of (modulus_of h) h.root (h.k - 1)) ≡ h.k = omega (arith, length_base_of (modulus_of h) h.root (h.k - 1), s.some) in
    (rw (c.base-base.ensures, c.new-field.ensures) (take_padded 256 h.k _ size), size, omega (arith, s.fits, s.byte))

pub invariant_of-inverses : goal.invariant_of-inverses
invariant_of-inverses c =
    let s = c.args.code.sound in
    let t = part (goal.at.invariant_of-inverses c).After-base-base in
    rw (c.new-field.ensures, t.0) record { symbols = record { below = base_of_below _ s.field _ _ s.root_below; short = omega (arith, t.1, t.2) } }

pub lagrange_basis-own-requires : goal.lagrange_basis-own-requires
lagrange_basis-own-requires c =
    let p = c.requires in
    let t = part (goal.at.lagrange_basis-own-requires c).After-base-base in
    (omega (arith, (nodes_places _ _ p.0).size, t.2), omega arith)

pub returns : goal.returns
unfolding setup_of row_points base_inverses
returns c =
    let p = c.requires in
    rw (c.lagrange_basis-own.ensures, c.lagrange_basis-rows.ensures, c.inverses-inverses.ensures, c.new-field.ensures, (part (goal.at.returns c).After-base-base).0, p.1)
