-- Bytes over either kind of field: read again, in symbols, how many, and changed.
use mathlib.Core.Path.{◌≡◌}
use mathlib.Core.Bool.{true, false}
use mathlib.Core.List.{List}
use Prim.Native.Nat.{ℕ, ◌+◌, ◌≤◌, ◌<◌}
use native.Mathlib.Omega.{arith}
use borrow.Author.Tests.{eqb-false, lt-leb}
use lib.Dec.{eqb}
use lib.ListN.{length}
use Rattle.lists.specs.Numbers.{all_below}
use Rattle.lists.proofs.Cases.{by_test}
use Rattle.layout.specs.Width.{symbols_of}
use Rattle.layout.proofs.Widths.{symbols_one}
use Rattle.field.specs.Fields.{size_of}
use Rattle.field.specs.Widths.{bytes_for}
use Rattle.carrying.specs.Carrying.{carries_none, words_length, carried_bytes, bytes_back, carried_length}
use Rattle.carrying.specs.Changing.{part_replaced, changed_bytes}
use Rattle.carrying.proofs.Carried.{Carrier, carrier_good}
use Rattle.carrying.proofs.Replaced.{length_replaced, below_replaced}
use Rattle.carrying.proofs.Bytes as words

-- a field that carries: bytes, or a prime
module _ (p : ℕ) (word : p < 65536) (good : carries_none p ≡ false) where
  by_kind : {A : Type 0} → (eqb p 0 ≡ true → A) → (eqb p 0 ≡ false → Carrier p → A) → A
  by_kind bytes prime = by_test (eqb p 0) bytes (λ e. prime e (carrier_good p good (eqb-false p 0 e) word))

  -- bytes that are carried are read again
  pub bytes_back_lem : (s : List ℕ) → all_below 256 s ≡ true → bytes_back p (length s) (carried_bytes p s) ≡ s
  unfolding carried_bytes bytes_back
  bytes_back_lem s low = by_kind (λ e. rw e) (λ e carrier. rw e (words.words_back_lem p carrier s low))

  -- how many bytes carry, and how many are read
  pub length_carried : (s : List ℕ) → length (carried_bytes p s) ≡ carried_length p (length s)
  unfolding carried_bytes carried_length
  length_carried s = by_kind (λ e. rw e) (λ e carrier. rw e (words.length_carried p carrier s))

  pub length_back : (n : ℕ) (s : List ℕ) → length s ≡ carried_length p n → length (bytes_back p n s) ≡ n
  unfolding bytes_back carried_length
  length_back n s long =
      by_kind
      (λ e. let same : length s ≡ n = rw e at long in rw e same)
      (λ e carrier. let same : length s ≡ words_length p n = rw e at long in rw e (words.length_back p carrier n s same))

  -- what carries are symbols of the field
  pub carried_below : (s : List ℕ) → all_below 256 s ≡ true → all_below (size_of p) (symbols_of (bytes_for p) (carried_bytes p s)) ≡ true
  unfolding carried_bytes bytes_for size_of
  carried_below s low =
      by_kind
      (λ e. rw (e, symbols_one s) low)
      (λ e carrier. rw (e, lt-leb p 256 (omega (arith, carrier.large))) (words.words_carried_below p carrier s low))

  -- bytes that are changed: as many symbols, symbols, and what is read
  pub record ChangedBytes (n at : ℕ) (bs s : List ℕ) : Type 0 where
    pub size : length (changed_bytes p at bs s) ≡ length s
    pub below : all_below (size_of p) (symbols_of (bytes_for p) (changed_bytes p at bs s)) ≡ true
    pub back : bytes_back p n (changed_bytes p at bs s) ≡ part_replaced at bs (bytes_back p n s)

  module _ (n at : ℕ) (bs s : List ℕ) (bytes : all_below 256 bs ≡ true) (inside : at + length bs ≤ n) where
    of_bytes : eqb p 0 ≡ true → length s ≡ carried_length p n → all_below (size_of p) (symbols_of (bytes_for p) s) ≡ true → ChangedBytes n at bs s
    unfolding changed_bytes bytes_back carried_length bytes_for size_of
    of_bytes e long low =
        let same : length s ≡ n = rw e at long in
        let byte : all_below 256 s ≡ true = rw (e, symbols_one s) at low in
        record {
          size = rw e (length_replaced at bs s (omega (arith, same)));
          below = rw (e, symbols_one (part_replaced at bs s)) (below_replaced 256 at bs s bytes byte);
          back = rw e;
        }

    of_prime : eqb p 0 ≡ false → Carrier p → length s ≡ carried_length p n → all_below (size_of p) (symbols_of (bytes_for p) s) ≡ true → ChangedBytes n at bs s
    unfolding changed_bytes bytes_back carried_length bytes_for size_of
    of_prime e carrier long low =
        let two = lt-leb p 256 (omega (arith, carrier.large)) in
        let same : length s ≡ words_length p n = rw e at long in
        let good : all_below p (symbols_of 2 s) ≡ true = rw (e, two) at low in
        let changed = words.words_changed p carrier n at bs s bytes inside same good in
        record {
          size = rw e changed.size;
          below = rw (e, two) changed.below;
          back = rw e changed.back;
        }

    pub changed_bytes_lem : length s ≡ carried_length p n → all_below (size_of p) (symbols_of (bytes_for p) s) ≡ true → ChangedBytes n at bs s
    changed_bytes_lem long low = by_kind (λ e. of_bytes e long low) (λ e carrier. of_prime e carrier long low)
