-- Encodings of messages, and the words of the code.
use Rattle.std.specs.Prelude.{Bool, true, ◌&&◌, List, [], ◌∷◌, ℕ, zero, suc, ◌+◌, ◌-◌, ◌*◌, ◌%◌, eqb}
use Rattle.lists.specs.Rows.{from}
use Rattle.field.specs.Fields.{add, mul, power}
use Rattle.generator.specs.declared.Header.{Header}
use Rattle.generator.specs.Records.{modulus_of}
use Rattle.generator.specs.Generator.{entry}

-- the sum over the symbols, the first being number r, of symbol times entry (r, j)
unfoldable pub node_from : ℕ → Header → List ℕ → ℕ → ℕ
node_from r h [] j = 0
node_from r h (x ∷ ms) j = add (modulus_of h) (mul (modulus_of h) x (entry h r j)) (node_from (r + 1) h ms j)

-- what node j holds for a message
unfoldable pub node_of : Header → List ℕ → ℕ → ℕ
node_of h ms j = node_from 0 h ms j

-- a message's encoding: what the n nodes hold
unfoldable pub encoding : Header → List ℕ → List ℕ
encoding h ms = from (node_of h ms) 0 h.n

-- the value at x of the polynomial with the coefficients cs, the constant first
unfoldable pub poly_at : ℕ → List ℕ → ℕ → ℕ
poly_at p [] x = 0
poly_at p (c ∷ cs) x = add p c (mul p x (poly_at p cs x))

-- its values at root^0 .. root^(n−1)
unfoldable pub values_of : Header → List ℕ → List ℕ
values_of h cs = from (λ j. poly_at (modulus_of h) cs (power (modulus_of h) h.root j)) 0 h.n

-- check sum e of the symbols, the first being that of node j: each times root^(j·e)
unfoldable pub check_from : Header → ℕ → ℕ → List ℕ → ℕ
check_from h e j [] = 0
check_from h e j (x ∷ ws) = add (modulus_of h) (mul (modulus_of h) x (power (modulus_of h) h.root (j * e % h.n))) (check_from h e (j + 1) ws)

-- the check sums from e down to 1 are zero
unfoldable pub checks_from : ℕ → Header → List ℕ → Bool
checks_from zero h ws = true
checks_from (suc e) h ws = eqb (check_from h (suc e) 0 ws) 0 && checks_from e h ws

-- the test for a word of the code: n − k check sums
unfoldable pub is_word : Header → List ℕ → Bool
is_word h ws = checks_from (h.n - h.k) h ws
