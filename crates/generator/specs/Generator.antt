-- The generator of the balanced Reed–Solomon code.
use Rattle.std.specs.Prelude.{List, ℕ, zero, suc, ◌+◌, ◌-◌, ◌%◌, get_or}
use Rattle.lists.specs.Rows.{from}
use Rattle.field.specs.Fields.{sub, mul, power}
use Rattle.generator.specs.declared.Header.{Header}
use Rattle.generator.specs.Records.{modulus_of, distance}
use Rattle.generator.specs.Shifts.{shifts}

-- the product of (x − root^i) for i below m
unfoldable pub base_from : ℕ → Header → ℕ → ℕ
base_from zero h x = 1
base_from (suc i) h x = mul (modulus_of h) (sub (modulus_of h) x (power (modulus_of h) h.root i)) (base_from i h x)

-- p(x), the product of (x − root^i) for i from 0 to k − 2
unfoldable pub base_at : Header → ℕ → ℕ
base_at h x = base_from (h.k - 1) h x

-- p(root^(j + shift − d)), the exponent modulo n: the entry at node j of a row with that shift
unfoldable pub entry_at : Header → ℕ → ℕ → ℕ
entry_at h shift j = base_at h (power (modulus_of h) h.root ((j + shift + (h.n - distance h)) % h.n))

-- entry (r, j) of the generator
unfoldable pub entry : Header → ℕ → ℕ → ℕ
entry h r j = entry_at h (get_or (shifts h) r 0) j

-- row 0, whose shift is 0
unfoldable pub base_word : Header → List ℕ
base_word h = from (entry_at h 0) 0 h.n
