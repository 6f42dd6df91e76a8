-- `Halves::add_products` meets its contract: nothing is added for the weight 0. The loop's invariant: the lanes below t hold their sums.
use Rattle.std.proofs.Common.{ℕ, ◌+◌, ◌/◌, ◌%◌, List}
use Rattle.kernel.specs.Inner.Halves.{pair_product}
use Rattle.kernel.proofs.Filling.{Changed}
use Rattle.kernel.proofs.wide.Halves.add_products.Given as goal

-- the lanes below t have their sums
abbrev pub Adding : (ℕ → ℕ) → List ℕ → List ℕ → ℕ → Type 0
Adding f start now t = Changed (λ t y. (y + f t) % 65536) start now t

abbrev pub invariant-loop-t : goal.invariant-loop-t
invariant-loop-t l =
    record {
      low_rest : Adding (λ t. pair_product l.weight l.first l.second t % 65536) l.initial.self.low.rest l.self.low.rest l.t;
      low_upper : Adding (λ t. pair_product l.weight l.first l.second t % 65536 / 256) l.initial.self.low.upper l.self.low.upper l.t;
      high_rest : Adding (λ t. pair_product l.weight l.first l.second t / 65536) l.initial.self.high.rest l.self.high.rest l.t;
      high_upper : Adding (λ t. pair_product l.weight l.first l.second t / 65536 / 256) l.initial.self.high.upper l.self.high.upper l.t;
    }
