-- How many messages of a record have a word of each Hamming weight, and what the call promises.
use Rattle.std.specs.Prelude.{Ok, Err}
use Rattle.generator.specs.Answers.{Answer, outcome_of}
use Rattle.std.specs.Prelude.{◌≡◌, ℕ, ◌+◌, ◌^◌, ◌<◌, ◌≤◌, Bool, true, not, List, length, ◌==◌, nat_lt}
use Rattle.lists.specs.Choice.{pick, first_of, when}
use Rattle.lists.specs.Rows.{from, range}
use Rattle.generator.specs.declared.Header.{Header}
use Rattle.generator.specs.Records.{record_of, size, distance}
use Rattle.generator.specs.Codewords.{node_of}
use Rattle.generator.specs.Claims.{is_message}
use Rattle.refusals.specs.Promise.{OnRecord}
use Rattle.weight_distribution.specs.Counts.{sum_of, message_at, weight_count, even_terms, odd_terms, textbook}

-- how many messages have a word with so many nodes that are not zero
unfoldable pub weight_count_of : Header → ℕ → ℕ
weight_count_of h weight = weight_count h.n h.k (size h) (node_of h) weight

-- the counts for the weights from 0 to n
unfoldable pub weight_counts : Header → List ℕ
weight_counts h = from (weight_count_of h) 0 (h.n + 1)

-- number 16: more than 65,536 messages
unfoldable pub messages_bad : Header → Bool
messages_bad h = nat_lt 65536 (size h ^ h.k)

-- numbers 8 and 16
unfoldable pub weights_fault : Header → ℕ → ℕ
weights_fault h out_len = first_of (when (not (out_len == h.n + 1)) 8) (when (messages_bad h) 16)

-- what holds of the counts of an accepted record, however many messages there are
pub record Distribution (h : Header) : Type 0 where
  -- the numbers below q^k stand for the messages, one number for each
  pub message : (x : ℕ) → is_message h (message_at h.k (size h) x) ≡ true
  pub some_number : (ms : List ℕ) → is_message h ms ≡ true → (x : ℕ) × (x < size h ^ h.k) × (message_at h.k (size h) x ≡ ms)
  pub one_number : (x x' : ℕ) → x < size h ^ h.k → x' < size h ^ h.k → message_at h.k (size h) x ≡ message_at h.k (size h) x' → x ≡ x'
  -- each message is counted once
  pub whole : sum_of (range 0 (h.n + 1)) (weight_count_of h) ≡ size h ^ h.k
  -- the textbook agrees, and its difference is never below zero
  pub agrees : (weight : ℕ) → weight ≤ h.n → weight_count_of h weight ≡ textbook h.n (distance h) (size h) weight
  pub exact : (weight : ℕ) → distance h ≤ weight → weight ≤ h.n → odd_terms (distance h) (size h) weight ≤ even_terms (distance h) (size h) weight

-- the same of a record that was read
unfoldable pub Distributed : Answer Header → Type 0
Distributed (Ok h) = Distribution h
Distributed (Err f) = Unit {0}

-- over a header and the number that turns the call away, 0 where none does: the answer, and the counts afterwards
pub record WeightsPromise (counts counts' : List ℕ) (answer : Answer (Unit {0})) (h : Header) (f : ℕ) : Type 0 where
  pub answered : answer ≡ outcome_of f
  pub written : counts' ≡ pick (f == 0) (weight_counts h) counts

-- what `weight_counts` promises over the record as it is read, and what holds of the counts
pub record WeightsSay (rec counts counts' : List ℕ) (answer : Answer (Unit {0})) : Type 0 where
  pub counted : OnRecord rec (λ h. weights_fault h (length counts)) (WeightsPromise counts counts' answer)
  pub claims : Distributed (record_of rec)
