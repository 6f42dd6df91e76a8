-- Repair of one node's symbol, where further nodes may be missing: what each node that is there sends of its own symbol, in b bits, and the sum that gives the symbol.
use Rattle.std.specs.Prelude.{Bool, not, List, [], ◌∷◌, ℕ, ◌+◌, ◌-◌, ◌%◌, ◌^◌, eqb, leb, length, get_or}
use Rattle.lists.specs.Choice.{pick}
use Rattle.lists.specs.Counting.{passing_from}
use Rattle.lists.specs.Numbers.{is_in}
use Rattle.field.specs.Fields.{sub, mul, power, inverse}
use Rattle.generator.specs.declared.Header.{Header}
use Rattle.generator.specs.Records.{modulus_of}
use Rattle.traces.specs.Traces.{trace_of, element, xor_below}

-- the bits of a symbol that a node sends, by n − k less the number of missing nodes; 0 where there is no repair by traces
unfoldable pub bits_for : ℕ → ℕ
bits_for left = pick (leb 128 left) 1 (pick (leb 64 left) 2 (pick (leb 16 left) 4 0))

-- the same for a header, with `count` nodes missing beside the target; only the field of 256 elements has it
unfoldable pub bits : Header → ℕ → ℕ
bits h count = pick (eqb (modulus_of h) 0) (bits_for (h.n - h.k - count)) 0

-- how many further nodes may be missing, with as few bits: what is left of n − k above 2^(8 − b)
unfoldable pub spare : Header → ℕ → ℕ
spare h count = h.n - h.k - count - 2 ^ (8 - bits h count)

-- a node sends to the target where it is neither the target nor missing
unfoldable pub sends : ℕ → List ℕ → ℕ → Bool
sends target missing j = not (is_in j (target ∷ missing))

-- the nodes that send, rising
unfoldable pub senders : Header → ℕ → List ℕ → List ℕ
senders h target missing = passing_from h.n 0 (sends target missing)

-- u = root^(j − target): the point of node j over the target's
unfoldable pub ratio : Header → ℕ → ℕ → ℕ
ratio h target j = power (modulus_of h) h.root ((j + (h.n - target)) % h.n)

-- u − 1
unfoldable pub offset : Header → ℕ → ℕ → ℕ
offset h target j = sub (modulus_of h) (ratio h target j) 1

-- (u − v) / (1 − v) for the v of one missing node j
unfoldable pub erasing : Header → ℕ → ℕ → ℕ → ℕ
erasing h target u j = mul (modulus_of h) (sub (modulus_of h) u (ratio h target j)) (inverse (modulus_of h) (sub (modulus_of h) 1 (ratio h target j)))

-- the product of these over the missing nodes: 0 where u is one of theirs, 1 where u is 1
unfoldable pub eraser : Header → ℕ → ℕ → List ℕ → ℕ
eraser h target u [] = 1
eraser h target u (j ∷ missing) = mul (modulus_of h) (erasing h target u j) (eraser h target u missing)

-- u / (u − 1), times that product
unfoldable pub factor : Header → ℕ → List ℕ → ℕ → ℕ
factor h target missing j = mul (modulus_of h) (mul (modulus_of h) (ratio h target j) (inverse (modulus_of h) (offset h target j))) (eraser h target (ratio h target j) missing)

-- what node j sends of its symbol x to the target: the trace of x times the factor, by its lowest b bits
unfoldable pub sent_digit : Header → ℕ → List ℕ → ℕ → ℕ → ℕ
sent_digit h target missing j x = let b = bits h (length missing) in trace_of b (mul (modulus_of h) (factor h target missing j) x) % 2 ^ b

-- the part of a digit of b bits from node j in the target's symbol: the trace times u − 1
unfoldable pub part : Header → ℕ → ℕ → ℕ → ℕ → ℕ
part h b target j digit = mul (modulus_of h) (offset h target j) (element b digit)

-- the target's symbol from the digits of the nodes that send, in their order
unfoldable pub repaired : Header → ℕ → List ℕ → (ℕ → ℕ) → ℕ
repaired h target missing digits = let js = senders h target missing in xor_below (length js) (λ i. part h (bits h (length missing)) target (get_or js i 0) (digits i))
