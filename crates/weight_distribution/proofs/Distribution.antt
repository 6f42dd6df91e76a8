-- The weight distribution of a code of distance n − k + 1: by supports, and by the textbook. Its counts sum to the number of messages.
use mathlib.Core.Path.{◌≡◌, refl, sym, ap, fun_ext, ◌∙◌}
use mathlib.Core.Bool.{Bool, not}
use mathlib.Core.List.{List}
use Prim.Native.Nat.{ℕ, zero, suc, ◌+◌, ◌-◌, ◌*◌, ◌^◌, ◌≤◌, ◌<◌}
use native.Mathlib.Nat.{pow-zero, mul-zero, mul-one}
use native.Mathlib.Decide.{ℕ_discrete, dec_lt}
use native.Mathlib.Omega.{arith}
use lib.Dec.{eqb, ltb}
use borrow.Author.Tests.{eq-eqb, ne_eqb, lt-ltb, le-ltb}
use Rattle.lists.specs.Choice.{pick, when}
use Rattle.lists.specs.Counting.{count_from}
use Rattle.lists.specs.Rows.{range}
use Rattle.lists.proofs.Count.{count_not}
use Rattle.lists.proofs.Places.{length_range}
use Rattle.weight_distribution.specs.Counts.{sum_of, message_at, hamming_weight, weight_count, binomial, even_terms, odd_terms, textbook}
use Rattle.weight_distribution.specs.Inner.Prescribed.{prescribed}
use Rattle.weight_distribution.proofs.Sums.{sum_count, sum_swap, sum_const}
use Rattle.weight_distribution.proofs.Messages.{sum_numbered, symbol_once}
use Rattle.weight_distribution.proofs.Zeros.{Mds, total}
use Rattle.weight_distribution.proofs.Prescribed.{binomial_zero, by_support}
use Rattle.weight_distribution.proofs.Terms.{support_terms, support_none}

-- no more than all pass
count_most : (f : ℕ) (p : ℕ → Bool) → count_from f 0 p ≤ f
count_most f p = omega (arith, count_not f 0 p)

-- a count over the numbers of the messages is one over all messages
count_messages : (n k q : ℕ) (word : List ℕ → ℕ → ℕ) (w : ℕ) → weight_count n k q word w ≡ total q k (λ m. when (eqb (hamming_weight n (word m)) w) 1)
unfolding weight_count
count_messages n k q word w =
    sym (sum_count (q ^ k) 0 (λ x. eqb (hamming_weight n (word (message_at k q x))) w)) ∙ sum_numbered q k (λ m. when (eqb (hamming_weight n (word m)) w) 1)

-- no count exceeds the number of messages
pub count_least : (n k q : ℕ) (word : List ℕ → ℕ → ℕ) (w : ℕ) → weight_count n k q word w ≤ q ^ k
unfolding weight_count
count_least n k q word w = count_most (q ^ k) (λ x. eqb (hamming_weight n (word (message_at k q x))) w)

-- each word has one weight
weight_once : (n v : ℕ) → v ≤ n → sum_of (range 0 (n + 1)) (λ w. when (eqb v w) 1) ≡ 1
weight_once n v l = ap (sum_of (range 0 (n + 1))) (fun_ext (λ w. ap (λ b. when b 1) (turned v w (ℕ_discrete v w)))) ∙ symbol_once (n + 1) v (omega arith)
  where
    turned : (v w : ℕ) → Dec (v ≡ w) → eqb v w ≡ eqb w v
    turned v w (yes e) = eq-eqb v w e ∙ sym (eq-eqb w v (sym e))
    turned v w (no e) = ne_eqb v w e ∙ sym (ne_eqb w v (λ z. e (sym z)))

-- The counts of all weights are the number of messages.
pub counts_sum : (n k q : ℕ) (word : List ℕ → ℕ → ℕ) → sum_of (range 0 (n + 1)) (weight_count n k q word) ≡ q ^ k
unfolding weight_count hamming_weight
counts_sum n k q word =
    let v : ℕ → ℕ = λ x. hamming_weight n (word (message_at k q x)) in
    ap (sum_of (range 0 (n + 1))) (fun_ext (λ w. sym (sum_count (q ^ k) 0 (λ x. eqb (v x) w))))
    ∙ sum_swap (range 0 (n + 1)) (range 0 (q ^ k)) (λ w x. when (eqb (v x) w) 1)
    ∙ ap (sum_of (range 0 (q ^ k))) (fun_ext (λ x. weight_once n (v x) (count_most n (λ j. not (eqb (word (message_at k q x) j) 0)))))
    ∙ sum_const (range 0 (q ^ k)) 1 ∙ rw (length_range 0 (q ^ k)) (mul-one (q ^ k))

-- a difference without loss
less : (p a s c : ℕ) → p + s ≡ a → c * p ≡ c * (a - s)
less p a s c e = let same : p ≡ a - s = omega arith in ap (λ x. c * x) same

module _ {n k q : ℕ} {word : List ℕ → ℕ → ℕ} (code : Mds n k q word) where
  -- The words of Hamming weight w: each of C(n, w) supports has as many.
  pub weights_by_support : (w : ℕ) → weight_count n k q word w ≡ binomial n w * prescribed n k q w w
  weights_by_support w = count_messages n k q word w ∙ by_support code w

  -- The count of the textbook.
  pub weights_textbook : (w : ℕ) → w ≤ n → weight_count n k q word w ≡ textbook n (n - k + 1) q w
  unfolding textbook prescribed
  weights_textbook zero l =
      let none : k + 0 - n ≡ 0 = omega (arith, code.fits) in
      weights_by_support 0 ∙ rw (binomial_zero n, none, pow-zero) refl
  weights_textbook (suc w) l = weights_by_support (suc w) ∙ by_distance (dec_lt (suc w) (n - k + 1))
    where
      by_distance : Dec (suc w < n - k + 1) → binomial n (suc w) * prescribed n k q (suc w) (suc w) ≡ pick (ltb (suc w) (n - k + 1)) 0 (binomial n (suc w) * (even_terms (n - k + 1) q (suc w) - odd_terms (n - k + 1) q (suc w)))
      by_distance (yes b) = rw (lt-ltb (suc w) (n - k + 1) b, support_none code w b) (mul-zero (binomial n (suc w)))
      by_distance (no b) = rw (le-ltb (suc w) (n - k + 1) (omega arith)) (less _ _ _ (binomial n (suc w)) (support_terms code w (omega arith) l))

  -- Its difference is never cut off at zero.
  pub textbook_exact : (w : ℕ) → n - k + 1 ≤ w → w ≤ n → odd_terms (n - k + 1) q w ≤ even_terms (n - k + 1) q w
  textbook_exact zero d l = absurd (omega arith)
  textbook_exact (suc w) d l = omega (arith, support_terms code w d l)
