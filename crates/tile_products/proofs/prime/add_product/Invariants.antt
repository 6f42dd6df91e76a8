-- `add_product` meets its contract. The loop's invariant: the lanes below t hold their sums.
use Rattle.std.proofs.Common.{ℕ, ◌+◌, ◌*◌, ◌/◌, ◌%◌, List, get_or}
use Rattle.kernel.proofs.Filling.{Changed}
use Rattle.tile_products.proofs.prime.add_product.Given as goal

-- the lanes below t have their sums
abbrev pub Adding : (ℕ → ℕ) → List ℕ → List ℕ → ℕ → Type 0
Adding f start now t = Changed (λ t y. (y + f t) % 65536) start now t

abbrev pub invariant-loop-t : goal.invariant-loop-t
invariant-loop-t l = Adding (λ t. get_or l.row t 0 * l.c) l.initial.sums.rest l.sums.rest l.t × Adding (λ t. get_or l.row t 0 * l.c / 256) l.initial.sums.upper l.sums.upper l.t
