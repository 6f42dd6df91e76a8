-- The same list from the check sums of the lane.
use Rattle.std.specs.Prelude.{◌≡◌, Bool, true, List, ℕ, ◌+◌, ◌-◌, ◌%◌, ◌<◌, eqb, length, get_or}
use Rattle.lists.specs.Counting.{passing_from}
use Rattle.lists.specs.Numbers.{all_below}
use Rattle.lists.specs.Search.{first_false}
use Rattle.field.specs.Fields.{sub, mul, power}
use Rattle.generator.specs.declared.Header.{Header}
use Rattle.generator.specs.Records.{modulus_of, size}
use Rattle.refusals.specs.Accepted.{IsLane}

-- the first place whose next check sum is not c times its own, or the last
unfoldable pub first_off : ℕ → ℕ → List ℕ → ℕ
first_off p c sums = first_false (length sums - 1) 0 (λ e. eqb (get_or sums (e + 1) 0) (mul p c (get_or sums e 0)))

-- each check sum is c times the one before it
unfoldable pub goes_up : ℕ → ℕ → List ℕ → Bool
goes_up p c sums = eqb (first_off p c sums) (length sums - 1)

-- the nodes j for which that holds of root^j
unfoldable pub up_nodes : Header → List ℕ → List ℕ
up_nodes h sums = passing_from h.n 0 (λ j. goes_up (modulus_of h) (power (modulus_of h) h.root j) sums)

-- what node j holds less the first check sum over root^j
unfoldable pub mended_at : Header → List ℕ → List ℕ → ℕ → ℕ
mended_at h ws sums j = sub (modulus_of h) (get_or ws j 0) (mul (modulus_of h) (get_or sums 0 0) (power (modulus_of h) h.root ((h.n - j) % h.n)))

-- one check sum or more
pub record HasSums (h : Header) (sums : List ℕ) : Type 0 where
  pub some : 0 < length sums
  pub symbols : all_below (size h) sums ≡ true

-- and a lane
pub record LaneSums (h : Header) (ws sums : List ℕ) : Type 0 where
  pub lane : IsLane h ws
  pub has : HasSums h sums
