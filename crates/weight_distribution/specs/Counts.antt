-- The weight distribution of a code: of all messages, how many have a word of each Hamming weight, counted one by one and by the textbook.
-- The Hamming weight of a word is the number of its places that are not zero. Weight without Hamming means a coefficient in this project.
use Rattle.std.specs.Prelude.{not, List, [], ◌∷◌, ℕ, zero, suc, ◌+◌, ◌-◌, ◌*◌, ◌/◌, ◌%◌, ◌^◌, eqb, ltb}
use Rattle.lists.specs.Choice.{pick, when}
use Rattle.lists.specs.Counting.{count_from}
use Rattle.lists.specs.Rows.{range}

-- the sum of g over a list
unfoldable pub sum_of : {A : Type 0} → List A → (A → ℕ) → ℕ
sum_of [] g = 0
sum_of (x ∷ xs) g = g x + sum_of xs g

-- message number x: its k symbols are the digits of x in base q, the lowest first
unfoldable pub message_at : ℕ → ℕ → ℕ → List ℕ
message_at zero q x = []
message_at (suc k) q x = x % q ∷ message_at k q (x / q)

-- the Hamming weight of a word of n places
unfoldable pub hamming_weight : ℕ → (ℕ → ℕ) → ℕ
hamming_weight n word = count_from n 0 (λ j. not (eqb (word j) 0))

-- of the q^k messages, those whose word has that Hamming weight; `word m j` is place j of the word of m
unfoldable pub weight_count : ℕ → ℕ → ℕ → (List ℕ → ℕ → ℕ) → ℕ → ℕ
weight_count n k q word weight = count_from (q ^ k) 0 (λ x. eqb (hamming_weight n (word (message_at k q x))) weight)

-- C(a, b), the ways to choose b out of a
unfoldable pub binomial : ℕ → ℕ → ℕ
binomial zero zero = 1
binomial zero (suc b) = 0
binomial (suc a) zero = 1
binomial (suc a) (suc b) = binomial a b + binomial a (suc b)

-- C(weight, i)·(q^(weight − d + 1 − i) − 1)
unfoldable pub term : ℕ → ℕ → ℕ → ℕ → ℕ
term d q weight i = binomial weight i * (q ^ (weight - d + 1 - i) - 1)

-- of the terms for i from 0 to weight − d, the sum of those that are added, i even, and of those that are subtracted, i odd
unfoldable pub even_terms : ℕ → ℕ → ℕ → ℕ
even_terms d q weight = sum_of (range 0 (weight - d + 1)) (λ i. when (eqb (i % 2) 0) (term d q weight i))

unfoldable pub odd_terms : ℕ → ℕ → ℕ → ℕ
odd_terms d q weight = sum_of (range 0 (weight - d + 1)) (λ i. when (eqb (i % 2) 1) (term d q weight i))

-- the textbook count of the words of a Hamming weight, for words of n places, distance d and q symbols
unfoldable pub textbook : ℕ → ℕ → ℕ → ℕ → ℕ
textbook n d q zero = 1
textbook n d q (suc weight) = pick (ltb (suc weight) d) 0 (binomial n (suc weight) * (even_terms d q (suc weight) - odd_terms d q (suc weight)))
