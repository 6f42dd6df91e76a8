-- All messages of k symbols below q: each stands once in their list and has just one number, and q^(k − z) of them begin with z zeros.
use mathlib.Core.Path.{◌≡◌, refl, sym, ap, ap₂, fun_ext, ◌∙◌}
use mathlib.Core.Bool.{Bool, true, false, ◌&&◌}
use mathlib.Core.List.{List, [], ◌∷◌, ◌++◌, map}
use mathlib.Core.Logic.{⊎_elim}
use Prim.Native.Nat.{ℕ, zero, suc, ◌+◌, ◌-◌, ◌*◌, ◌/◌, ◌%◌, ◌^◌, ◌≤◌, ◌<◌}
use native.Mathlib.Nat.{zero-add, add-zero, add_comm, zero-mul, suc-mul, pow-zero, pow-suc, pow-succ', zero-sub, sub-zero, suc-sub-suc, eq-or-lt_of_le, mod-lt, mod-eq_of_lt, div-eq_of_lt, mul-add-mod_self_right, add-mul-div_right, div-add-mod', div-lt_iff_lt-mul, mul-le-mul_right}
use native.Mathlib.Omega.{arith}
use lib.Dec.{eqb}
use lib.ListN.{length, take}
use borrow.Author.Tests.{eqb-true, eq-eqb, ne_eqb}
use Rattle.std.proofs.lemmas.Nat.{mod-mul-add, div-mul-add}
use Rattle.lists.specs.Choice.{when}
use Rattle.lists.specs.Rows.{from, range}
use Rattle.lists.proofs.All.{All, All-imp, All-map, ExactlyOne}
use Rattle.std.proofs.lemmas.Bool.{and_parts}
use Rattle.lists.proofs.Places.{All-range, range_append, length_range}
use Rattle.weight_distribution.specs.Counts.{sum_of, message_at}
use Rattle.weight_distribution.proofs.Sums.{all_pass, sum_ext, sum_const, sum_when, sum_append, sum_map, sum_pick, sum_swap}

-- k symbols
pub record Message (q k : ℕ) (m : List ℕ) : Type 0 where
  pub size : length m ≡ k
  pub below : All (λ x. x < q) m

-- each symbol before each message
unfoldable pub before : List ℕ → List (List ℕ) → List (List ℕ)
before [] ms = []
before (x ∷ xs) ms = map (λ m. x ∷ m) ms ++ before xs ms

-- all messages
unfoldable pub messages : ℕ → ℕ → List (List ℕ)
messages q zero = [] ∷ []
messages q (suc k) = before (range 0 q) (messages q k)

pub sum_before : (xs : List ℕ) (ms : List (List ℕ)) (f : List ℕ → ℕ) → sum_of (before xs ms) f ≡ sum_of xs (λ x. sum_of ms (λ m. f (x ∷ m)))
unfolding before sum_of
sum_before [] ms f = refl
sum_before (x ∷ xs) ms f =
    sum_append (map (λ m. x ∷ m) ms) (before xs ms) f ∙ ap₂ ◌+◌ (sum_map (λ m. x ∷ m) ms f) (sum_before xs ms f)

All-append : (P : List ℕ → Type 0) (xs ys : List (List ℕ)) → All P xs → All P ys → All P (xs ++ ys)
All-append P [] ys h k = k
All-append P (x ∷ xs) ys h k = (h.0, All-append P xs ys h.1 k)

All-before : (q k : ℕ) (xs : List ℕ) (ms : List (List ℕ)) → All (λ x. x < q) xs → All (Message q k) ms → All (Message q (suc k)) (before xs ms)
unfolding before
All-before q k [] ms h g = tt
All-before q k (x ∷ xs) ms h g =
    All-append (Message q (suc k)) (map (λ m. x ∷ m) ms) (before xs ms)
    (All-map (Message q (suc k)) (λ m. x ∷ m) ms (All-imp (Message q k) (λ m. Message q (suc k) (x ∷ m)) (λ m e. record { size = ap suc e.size; below = (h.0, e.below) }) ms g))
    (All-before q k xs ms h.1 g)

-- the symbols below q
all_symbols : (q : ℕ) → All (λ x. x < q) (range 0 q)
all_symbols q = All-range (λ x. x < q) 0 q (λ i l b. omega arith)

pub All-messages : (q k : ℕ) → All (Message q k) (messages q k)
unfolding messages
All-messages q zero = (record { size = refl; below = tt }, tt)
All-messages q (suc k) = All-before q k (range 0 q) (messages q k) (all_symbols q) (All-messages q k)

-- the same list, by a test
abbrev pub same_list : List ℕ → List ℕ → Bool
same_list [] [] = true
same_list [] (y ∷ ys) = false
same_list (x ∷ xs) [] = false
same_list (x ∷ xs) (y ∷ ys) = eqb x y && same_list xs ys

pub same_list_lem : (xs ys : List ℕ) → same_list xs ys ≡ true → xs ≡ ys
same_list_lem [] [] e = refl
same_list_lem [] (y ∷ ys) e = cc
same_list_lem (x ∷ xs) [] e = cc
same_list_lem (x ∷ xs) (y ∷ ys) e = ap₂ ◌∷◌ (eqb-true x y (and_parts (eqb x y) (same_list xs ys) e).0) (same_list_lem xs ys (and_parts (eqb x y) (same_list xs ys) e).1)

pub list_same : (xs : List ℕ) → same_list xs xs ≡ true
list_same [] = refl
list_same (x ∷ xs) = rw (eq-eqb x x refl) (list_same xs)

-- a number below those of a stretch, and a number of the stretch
count_none : (f i y : ℕ) → y < i → sum_of (range i f) (λ x. when (eqb x y) 1) ≡ 0
unfolding from sum_of
count_none zero i y h = refl
count_none (suc f) i y h = rw (ne_eqb i y (λ e. omega arith)) (omega (arith, count_none f (i + 1) y (omega arith)))

count_once : (f i y : ℕ) → i ≤ y → y < i + f → sum_of (range i f) (λ x. when (eqb x y) 1) ≡ 1
unfolding from sum_of
count_once zero i y l h = absurd (omega arith)
count_once (suc f) i y l h =
    ⊎_elim
    (λ (e : i ≡ y). rw (eq-eqb i y e) (omega (arith, count_none f (i + 1) y (omega arith))))
    (λ (m : i < y). rw (ne_eqb i y (λ e. omega arith)) (omega (arith, count_once f (i + 1) y (omega arith) (omega arith))))
    (eq-or-lt_of_le l)

pub symbol_once : (q y : ℕ) → y < q → sum_of (range 0 q) (λ x. when (eqb x y) 1) ≡ 1
symbol_once q y h = count_once q 0 y (omega arith) (omega arith)

-- each message stands in the list once
pub messages_once : (q k : ℕ) (m : List ℕ) → Message q k m → sum_of (messages q k) (λ x. when (same_list x m) 1) ≡ 1
unfolding messages sum_of
messages_once q zero [] h = refl
messages_once q zero (y ∷ m) h = absurd (omega (arith, h.size))
messages_once q (suc k) [] h = absurd (omega (arith, h.size))
messages_once q (suc k) (y ∷ m) h =
    sum_before (range 0 q) (messages q k) (λ x. when (same_list x (y ∷ m)) 1)
    ∙ ap (sum_of (range 0 q)) (fun_ext (λ x. sum_when (eqb x y) (λ l. same_list l m) (messages q k) ∙ ap (when (eqb x y)) (messages_once q k m (record { size = omega (arith, h.size); below = h.below.1 }))))
    ∙ symbol_once q y h.below.0

-- those that begin with z zeros
pub messages_zero : (q k z : ℕ) → 0 < q → sum_of (messages q k) (λ m. when (all_pass (λ x. eqb x 0) (take z m)) 1) ≡ q ^ (k - z)
unfolding messages sum_of
messages_zero q zero zero h = sym (pow-zero q)
messages_zero q zero (suc z) h = rw (zero-sub (suc z)) (sym (pow-zero q))
messages_zero q (suc k) zero h =
    sum_before (range 0 q) (messages q k) (λ m. 1) ∙ sum_const (range 0 q) (sum_of (messages q k) (λ m. 1)) ∙ rw (length_range 0 q) (ap (λ c. q * c) (messages_zero q k zero h)
    ∙ rw (sub-zero k, sub-zero (suc k), pow-succ'))
messages_zero q (suc k) (suc z) h =
    sum_before (range 0 q) (messages q k) (λ m. when (all_pass (λ x. eqb x 0) (take (suc z) m)) 1)
    ∙ ap (sum_of (range 0 q)) (fun_ext (λ x. sum_when (eqb x 0) (λ l. all_pass (λ x. eqb x 0) (take z l)) (messages q k) ∙ ap (when (eqb x 0)) (messages_zero q k z h)))
    ∙ sum_pick eqb eqb-true (λ x. eq-eqb x x refl) (λ x. x < q) (range 0 q) (all_symbols q) (symbol_once q) 0 (λ x. q ^ (k - z)) h
    ∙ rw suc-sub-suc

-- a stretch moved
sum_shift : (f s t : ℕ) (g : ℕ → ℕ) → sum_of (range (s + t) f) g ≡ sum_of (range t f) (λ a. g (s + a))
unfolding from sum_of
sum_shift zero s t g = refl
sum_shift (suc f) s t g = let e : s + t + 1 ≡ s + (t + 1) = omega arith in ap (λ c. g (s + t) + c) (rw e (sum_shift f s (t + 1) g))

-- a sum over c blocks of q numbers
sum_blocks : (c t q : ℕ) (g : ℕ → ℕ) → sum_of (range (t * q) (c * q)) g ≡ sum_of (range t c) (λ b. sum_of (range 0 q) (λ a. g (b * q + a)))
unfolding from sum_of
sum_blocks zero t q g = rw (zero-mul q)
sum_blocks (suc c) t q g =
    let parts : suc c * q ≡ q + c * q = suc-mul c q ∙ add_comm (c * q) q in
    let next : t * q + q ≡ (t + 1) * q = omega (arith, suc-mul t q) in
    ap (λ l. sum_of (range (t * q) l) g) parts
    ∙ ap (λ l. sum_of l g) (range_append (t * q) q (c * q))
    ∙ sum_append (range (t * q) q) (range (t * q + q) (c * q)) g
    ∙ ap₂ ◌+◌ (ap (λ s. sum_of (range s q) g) (sym (add-zero (t * q))) ∙ sum_shift q (t * q) 0 g) (ap (λ s. sum_of (range s (c * q)) g) next ∙ sum_blocks c (t + 1) q g)

-- the digits of b·q + a
digits_next : (k q a b : ℕ) → a < q → message_at (suc k) q (b * q + a) ≡ a ∷ message_at k q b
unfolding message_at
digits_next k q a b h = rw (mod-mul-add b q a h, div-mul-add b q a h)

-- The messages by their numbers are all messages.
pub sum_numbered : (q k : ℕ) (f : List ℕ → ℕ) → sum_of (range 0 (q ^ k)) (λ x. f (message_at k q x)) ≡ sum_of (messages q k) f
unfolding messages message_at from sum_of
sum_numbered q zero f = rw (pow-zero q)
sum_numbered q (suc k) f =
    rw (pow-suc q k) (ap (λ s. sum_of (range s (q ^ k * q)) (λ x. f (message_at (suc k) q x))) (sym (zero-mul q))
    ∙ sum_blocks (q ^ k) 0 q (λ x. f (message_at (suc k) q x))
    ∙ ap (sum_of (range 0 (q ^ k))) (fun_ext (λ b. sum_ext (λ a. a < q) (range 0 q) (λ a. f (message_at (suc k) q (b * q + a))) (λ a. f (a ∷ message_at k q b)) (all_symbols q) (λ a h. ap f (digits_next k q a b h))))
    ∙ sum_swap (range 0 (q ^ k)) (range 0 q) (λ b a. f (a ∷ message_at k q b))
    ∙ ap (sum_of (range 0 q)) (fun_ext (λ a. sum_numbered q k (λ m. f (a ∷ m))))
    ∙ sym (sum_before (range 0 q) (messages q k) f))

-- what stands under each number is a message
pub numbered_message : (q k x : ℕ) → 0 < q → Message q k (message_at k q x)
unfolding message_at
numbered_message q zero x h = record { size = refl; below = tt }
numbered_message q (suc k) x h = let m = numbered_message q k (x / q) h in record { size = ap suc m.size; below = (mod-lt x h, m.below) }

-- the number of a message
abbrev number_of : ℕ → List ℕ → ℕ
number_of q [] = 0
number_of q (a ∷ m) = number_of q m * q + a

number_below : (q k : ℕ) (m : List ℕ) → Message q k m → number_of q m < q ^ k
number_below q zero [] h = rw (pow-zero q) (omega arith)
number_below q zero (y ∷ m) h = absurd (omega (arith, h.size))
number_below q (suc k) [] h = absurd (omega (arith, h.size))
number_below q (suc k) (a ∷ m) h =
    let low : number_of q m < q ^ k = number_below q k m (record { size = omega (arith, h.size); below = h.below.1 }) in
    omega (arith, h.below.0, mul-le-mul_right q low, suc-mul (number_of q m) q, pow-suc q k)

message_number : (q k : ℕ) (m : List ℕ) → Message q k m → message_at k q (number_of q m) ≡ m
unfolding message_at
message_number q zero [] h = refl
message_number q zero (y ∷ m) h = absurd (omega (arith, h.size))
message_number q (suc k) [] h = absurd (omega (arith, h.size))
message_number q (suc k) (a ∷ m) h =
    rw (mod-mul-add (number_of q m) q a h.below.0, div-mul-add (number_of q m) q a h.below.0, message_number q k m (record { size = omega (arith, h.size); below = h.below.1 }))

number_message : (q k x : ℕ) → 0 < q → x < q ^ k → number_of q (message_at k q x) ≡ x
unfolding message_at
number_message q zero x h l = omega (arith, pow-zero q)
number_message q (suc k) x h l =
    let rest : x / q < q ^ k = (div-lt_iff_lt-mul h).1 (omega (arith, pow-suc q k)) in
    rw (number_message q k (x / q) h rest) (div-add-mod' x q)

-- Every message has just one number below q^k.
pub message_numbers : (q k : ℕ) (m : List ℕ) → 0 < q → Message q k m → ExactlyOne (λ x. (x < q ^ k) × (message_at k q x ≡ m))
message_numbers q k m h g =
    (number_of q m, (number_below q k m g, message_number q k m g), λ x e. sym (number_message q k x h e.0) ∙ ap (number_of q) e.1)
