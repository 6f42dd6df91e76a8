-- The difference of two lanes, the row of the generator that it begins with, and the update behind it.
use Rattle.std.specs.Prelude.{Bool, ◌&&◌, ◌||◌, not, List, ℕ, ◌+◌, ◌-◌, ◌%◌, eqb, ltb, length, get_or}
use Rattle.lists.specs.Choice.{pick}
use Rattle.lists.specs.Rows.{from}
use Rattle.lists.specs.Search.{first_false}
use Rattle.field.specs.Fields.{sub, mul, inverse}
use Rattle.generator.specs.declared.Header.{Header}
use Rattle.generator.specs.Records.{modulus_of}
use Rattle.generator.specs.Shifts.{firsts}
use Rattle.generator.specs.Generator.{entry}
use Rattle.find_update.specs.declared.Finding.{Finding}
use Rattle.find_update.specs.declared.Finding.TheVariants.{Added, NoSingleUpdate}

-- what was added at each node
unfoldable pub differences : Header → List ℕ → List ℕ → List ℕ
differences h us vs = from (λ j. sub (modulus_of h) (get_or vs j 0) (get_or us j 0)) 0 h.n

-- the node before a node of n, going round
unfoldable pub node_before : ℕ → ℕ → ℕ
node_before n j = (j + (n - 1)) % n

-- a list is not zero at a row's first node, and zero at the node before, unless k is 1 and a row lies on all nodes
unfoldable pub begins_at : ℕ → List ℕ → ℕ → Bool
begins_at k ws first = not (eqb (get_or ws first 0) 0) && (eqb k 1 || eqb (get_or ws (node_before (length ws) first) 0) 0)

-- the least row that it begins with, or k
unfoldable pub row_starting : Header → List ℕ → ℕ
row_starting h ws = first_false h.k 0 (λ r. not (begins_at h.k ws (get_or (firsts h) r 0)))

-- the first of n nodes at which a list is not x times row r, or n
unfoldable pub first_other : Header → List ℕ → ℕ → ℕ → ℕ
first_other h ws r x = first_false h.n 0 (λ j. eqb (get_or ws j 0) (mul (modulus_of h) x (entry h r j)))

-- and there is none: the list is x times row r
unfoldable pub is_multiple : Header → List ℕ → ℕ → ℕ → Bool
is_multiple h ws r x = eqb (first_other h ws r x) h.n

-- the amount: what was added at the first node of row r, over the row's entry there
unfoldable pub amount_in : Header → List ℕ → ℕ → ℕ
amount_in h ws r = mul (modulus_of h) (get_or ws (get_or (firsts h) r 0) 0) (inverse (modulus_of h) (entry h r (get_or (firsts h) r 0)))

-- the update that a difference is of, where it is not zero at some node
unfoldable pub update_in : Header → List ℕ → Finding
update_in h ws =
    pick (ltb (row_starting h ws) h.k && is_multiple h ws (row_starting h ws) (amount_in h ws (row_starting h ws)))
    (Added (row_starting h ws) (amount_in h ws (row_starting h ws))) NoSingleUpdate
