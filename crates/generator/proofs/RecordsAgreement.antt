-- Records as document 03 states them (specs/Fields.antt), and that ours of kinds 1 and 2 are the same but for number 6: it turned a record away whose store does not share out evenly, which ticket 4 makes a plan.
-- Its text stands here but for the marks: what it has as `abbrev` is `unfoldable`. Its arithmetic is quoted in the crate `field`; its `pick`, `first_of` and `when` are those of `lists`.
use mathlib.Core.Path.{◌≡◌, refl, sym, ap, ◌∙◌}
use mathlib.Core.Bool.{Bool, ◌&&◌, ◌||◌, not, or-false}
use mathlib.Core.List.{List}
use Prim.Native.Nat.{ℕ, zero, suc, ◌+◌, ◌-◌, ◌*◌, ◌%◌}
use borrow.Author.Tests.{ltb-true, le-ltb, eqb-true, not-false}
use lib.Dec.{eqb, ltb, leb}
use lib.ListN.{length, get_or}
use Rattle.lists.specs.Choice.{pick, first_of, when}
use Rattle.lists.proofs.Cases.{by_test, first_zero, when_zero}
use Rattle.field.specs.Kinds.{modulus}
use Rattle.field.proofs.Agreement.{rest, size_of, is_prime, order_of, rest_agrees, size_of_agrees, is_prime_agrees, order_of_agrees}
use Rattle.generator.specs.declared.Header as Own
use Rattle.generator.specs.Records as Ours
use Rattle.generator.proofs.Accepts.{faultless_sound}
use Rattle.generator.proofs.Older.{Older, older_nodes}

-- document 03's definitions
pub record Header : Type 0 where
  pub p : ℕ
  pub root : ℕ
  pub n : ℕ
  pub k : ℕ

unfoldable pub header_of : List ℕ → Header
header_of s = pick (eqb (get_or s 0 0) 1) (record { p = get_or s 1 0; root = get_or s 2 0; n = get_or s 3 0; k = get_or s 4 0 }) (record { p = 0; root = get_or s 1 0; n = get_or s 2 0; k = get_or s 3 0 })

unfoldable pub weight : Header → ℕ
weight h = h.n - h.k + 1

unfoldable pub record_fault : List ℕ → ℕ
record_fault s = let b = get_or s 0 0 in let h = header_of s in first_of (when (eqb (length s) 0 || not (eqb b 1 || eqb b 2)) 1) (first_of (when (not (eqb (length s) (pick (eqb b 1) 5 4))) 2) (first_of (when (eqb b 1 && not (leb 3 h.p && (leb h.p 251 && is_prime h.p))) 3) (first_of (when (ltb h.n 2 || (eqb h.k 0 || ltb h.n h.k)) 4) (first_of (when (not (ltb h.root (size_of h.p) && eqb (order_of h.p h.root) h.n)) 5) (when (not (eqb (rest (h.k * weight h) h.n) 0)) 6)))))

-- its header made from ours
abbrev pub given : Own.Header → Header
given h = record { p = Ours.modulus_of h; root = h.root; n = h.n; k = h.k }

pub header_of_agrees : (s : List ℕ) → Older s → header_of s ≡ given (Ours.header_of s)
unfolding header_of Ours.header_of modulus
header_of_agrees s old = by_test (eqb (get_or s 0 0) 1) (λ t. rw t) (λ t. rw (t, old.kind))

pub weight_agrees : (h : Own.Header) → weight (given h) ≡ Ours.distance h
unfolding weight Ours.distance
weight_agrees h = refl

-- numbers 1 and 2
kind_agrees : (s : List ℕ) → Older s → (eqb (length s) 0 || not (eqb (get_or s 0 0) 1 || eqb (get_or s 0 0) 2)) ≡ Ours.kind_bad s
unfolding Ours.kind_bad
kind_agrees s old = rw (old.kind, or-false)

body_agrees : (s : List ℕ) → Older s → not (eqb (length s) (pick (eqb (get_or s 0 0) 1) 5 4)) ≡ Ours.body_bad s
unfolding Ours.body_bad
body_agrees s old = rw old.kind

-- number 3
field_agrees : (s : List ℕ) → Older s → (eqb (get_or s 0 0) 1 && not (leb 3 (given (Ours.header_of s)).p && (leb (given (Ours.header_of s)).p 251 && is_prime (given (Ours.header_of s)).p))) ≡ Ours.field_bad s
unfolding Ours.header_of Ours.field_bad Ours.prime_in modulus
field_agrees s old = by_test (eqb (get_or s 0 0) 1) (λ t. rw (t, is_prime_agrees (get_or s 1 0))) (λ t. rw (t, old.kind))

-- number 4: n is a byte
size_agrees : (s : List ℕ) → Older s → let h = Ours.header_of s in (ltb h.n 2 || (eqb h.k 0 || ltb h.n h.k)) ≡ Ours.size_bad h
unfolding Ours.size_bad
size_agrees s old = rw (le-ltb 255 (Ours.header_of s).n (older_nodes s old))

-- number 5: the order is asked of symbols alone
root_agrees : (h : Own.Header) → not (ltb h.root (size_of (Ours.modulus_of h)) && eqb (order_of (Ours.modulus_of h) h.root) h.n) ≡ Ours.root_bad h
unfolding Ours.root_bad
root_agrees h =
    rw (size_of_agrees (Ours.modulus_of h))
    (by_test (ltb h.root (Ours.size h)) (λ t. rw (order_of_agrees (Ours.modulus_of h) h.root (ltb-true _ _ t))) (λ t. rw t))

-- number 6, which ours no longer has
abbrev pub uneven : Own.Header → Bool
uneven h = not (eqb (h.k * Ours.distance h % h.n) 0)

uneven_agrees : (h : Own.Header) → not (eqb (rest (h.k * weight (given h)) h.n) 0) ≡ uneven h
uneven_agrees h = ap (λ (x : ℕ). not (eqb x 0)) (rest_agrees (h.k * weight (given h)) h.n ∙ ap (λ (d : ℕ). h.k * d % h.n) (weight_agrees h))

-- a number after others
first_first : (a b c : ℕ) → first_of a (first_of b c) ≡ first_of (first_of a b) c
first_first zero b c = refl
first_first (suc a) b c = refl

-- no number after others
first_none : (a : ℕ) → first_of a 0 ≡ a
first_none zero = refl
first_none (suc a) = refl

-- the number of every record of kinds 1 and 2 and of any other but 3, whatever it holds: ours, and 6 where ours is none and n does not divide k·d
pub record_fault_six : (s : List ℕ) → Older s → record_fault s ≡ first_of (Ours.record_fault s) (when (uneven (Ours.header_of s)) 6)
unfolding record_fault Ours.record_fault Ours.header_fault
record_fault_six s old = rw (header_of_agrees s old, kind_agrees s old, body_agrees s old, field_agrees s old, size_agrees s old, root_agrees (Ours.header_of s), uneven_agrees (Ours.header_of s)) (simp first_first)

-- so the same where n divides k·d
pub record_fault_agrees : (s : List ℕ) → Older s → (Ours.header_of s).k * Ours.distance (Ours.header_of s) % (Ours.header_of s).n ≡ 0 → record_fault s ≡ Ours.record_fault s
record_fault_agrees s old even = record_fault_six s old ∙ rw even (first_none (Ours.record_fault s))

-- its domain: what it accepts has a sound header, and n divides k·d
pub given_sound : (s : List ℕ) → Older s → record_fault s ≡ 0 → Ours.Sound (Ours.header_of s) × ((Ours.header_of s).k * Ours.distance (Ours.header_of s) % (Ours.header_of s).n ≡ 0)
given_sound s old e =
    let (none, six) = first_zero (Ours.record_fault s) (when (uneven (Ours.header_of s)) 6) (sym (record_fault_six s old) ∙ e) in
    (faultless_sound s none, eqb-true _ 0 (not-false _ (when_zero (uneven (Ours.header_of s)) 5 six)))
