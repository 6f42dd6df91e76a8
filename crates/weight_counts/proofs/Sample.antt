-- The counts of the record 1 7 3 6 3, and of every accepted record with n = 6 and k = 3 over 7 symbols.
use Rattle.std.proofs.Common.{◌≡◌, ℕ, ◌+◌, List, [], ◌∷◌, refl, ◌∙◌, arith}
use Rattle.lists.specs.Rows.{from}
use Rattle.lists.proofs.Rows.{from_ext}
use Rattle.field.specs.Primes.{divides_some, is_prime}
use Rattle.field.specs.Fields.{size_of, mul, order_from, order_of}
use Rattle.field.specs.Kinds.{modulus}
use Rattle.generator.specs.declared.Header.{Header}
use Rattle.generator.specs.Records.{header_of, size, distance, kind_bad, body_bad, prime_in, field_bad, size_bad, root_bad, header_fault, record_fault, Sound}
use Rattle.generator.proofs.Accepts.{faultless_sound}
use Rattle.weight_distribution.specs.Counts.{sum_of, binomial, term, even_terms, odd_terms, textbook}
use Rattle.weight_counts.specs.Weights.{weight_count_of, weight_counts}
use Rattle.weight_counts.proofs.Weights.{distribution}

by_textbook : from (textbook 6 4 7) 0 7 ≡ 1 ∷ 0 ∷ 0 ∷ 0 ∷ 90 ∷ 108 ∷ 144 ∷ []
unfolding from textbook even_terms odd_terms term binomial sum_of
by_textbook = refl

counts_of : (h : Header) → Sound h → h.n ≡ 6 → h.k ≡ 3 → size h ≡ 7 → weight_counts h ≡ 1 ∷ 0 ∷ 0 ∷ 0 ∷ 90 ∷ 108 ∷ 144 ∷ []
unfolding weight_counts distance
counts_of h s n k q =
    let count : h.n + 1 ≡ 7 = omega arith in
    rw count (from_ext (weight_count_of h) (textbook 6 4 7) 0 7 (λ w low high. (distribution h s).agrees w (omega arith) ∙ rw (n, k, q)) ∙ by_textbook)

abbrev sample : List ℕ
sample = 1 ∷ 7 ∷ 3 ∷ 6 ∷ 3 ∷ []

-- no number turns it away
accepted : record_fault sample ≡ 0
unfolding record_fault kind_bad body_bad field_bad prime_in is_prime divides_some header_fault size_bad root_bad header_of modulus size_of order_of order_from mul
accepted = refl

pub sample_counts : weight_counts (header_of sample) ≡ 1 ∷ 0 ∷ 0 ∷ 0 ∷ 90 ∷ 108 ∷ 144 ∷ []
unfolding header_of modulus size_of
sample_counts = counts_of (header_of sample) (faultless_sound sample accepted) refl refl refl
