-- Powers of the root, as the check sums use them.
use Rattle.std.specs.Prelude.{List, ℕ, ◌*◌, ◌%◌}
use Rattle.lists.specs.Rows.{from}
use Rattle.field.specs.Fields.{power}
use Rattle.generator.specs.declared.Header.{Header}
use Rattle.generator.specs.Records.{modulus_of}

-- the powers of the root below its order n
unfoldable pub powers_of : Header → List ℕ
powers_of h = from (power (modulus_of h) h.root) 0 h.n

-- the factors of the nodes' symbols in check sum e
unfoldable pub factors_of : Header → ℕ → List ℕ
factors_of h e = from (λ j. power (modulus_of h) h.root (j * e % h.n)) 0 h.n
