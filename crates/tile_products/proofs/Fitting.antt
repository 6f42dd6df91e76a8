-- Scratch for so many groups and outputs is long enough.
use Rattle.std.proofs.Common.{ℕ, ◌*◌, ◌≤◌, mul-le-mul, arith}
use Rattle.tile_products.specs.Inner.Products.{groups_of}

pub groups_few : (k m : ℕ) → k ≤ 4 * m → groups_of k ≤ m
unfolding groups_of
groups_few k m few = omega arith

pub lists_fit : (n k m most : ℕ) → n ≤ most → k ≤ 4 * m → n * (8 * groups_of k) ≤ most * (8 * m)
lists_fit n k m most few rows = let g : 8 * groups_of k ≤ 8 * m = omega (arith, groups_few k m rows) in mul-le-mul few g
