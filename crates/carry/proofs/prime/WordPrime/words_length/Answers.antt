-- `WordPrime::words_length` meets its contract.
use mathlib.Core.Path.{◌≡◌, sym, ap, ◌∙◌}
use Prim.Native.Nat.{ℕ, ◌+◌, ◌*◌, ◌/◌, ◌%◌}
use native.Mathlib.Omega.{arith}
use Rattle.carrying.specs.Groups.{group_count}
use Rattle.carrying.specs.Carrying.{group_words, word_count, words_length}
use Rattle.carry.proofs.Parts.{groups_ceil}
use Rattle.carry.proofs.prime.WordPrime.words_length.Goals as goal
use Rattle.carry.proofs.prime.WordPrime.words_length.Goals.{After-div_ceil}

-- so many groups
groups : (c : After-div_ceil) → c.div_ceil.result ≡ group_count c.group_words.result c.div_ceil-words.result
groups c = c.div_ceil.ensures ∙ sym (groups_ceil _ _ (omega (arith, c.group_words.ensures)))

pub returns : goal.returns
unfolding words_length word_count
returns c =
    let words = c.div_ceil-words.result in
    let count : words ≡ c.args.n / 2 + c.args.n % 2 = omega (arith, c.div_ceil-words.ensures) in
    ap (λ (x : ℕ). (words + x) * 2) (groups (goal.at.returns c).After-div_ceil ∙ ap (λ (m : ℕ). group_count m words) c.group_words.ensures.0)
    ∙ ap (λ (x : ℕ). (x + group_count (group_words c.args.self.p) x) * 2) count
