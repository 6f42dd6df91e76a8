-- The list of the small plans: the sentences, proved.
use mathlib.Core.Path.{◌≡◌, refl, sym, ap, ap₂, subst, ◌∙◌}
use mathlib.Core.Logic.{inl, inr, by_cases}
use mathlib.Core.Bool.{true≢false}
use mathlib.Core.List.{List, [], ◌∷◌, ◌++◌, append-nil, append_assoc}
use Prim.Native.Nat.{ℕ, zero, suc, ◌+◌, ◌≤◌, ◌<◌}
use native.Mathlib.Decide.{ℕ_discrete}
use native.Mathlib.Omega.{arith}
use borrow.Author.Tests.{eqb-true, eq-eqb}
use lib.Dec.{eqb}
use lib.ListN.{length, length-append, get_or-append}
use lib.Seq.{get_or-append-add}
use Rattle.lists.specs.Choice.{pick}
use Rattle.lists.specs.Rows.{rows_from}
use Rattle.lists.proofs.All.{All, All-at, All-imp}
use Rattle.lists.proofs.Cases.{by_test}
use Rattle.weight_distribution.proofs.Sums.{All-append}
use Rattle.field.specs.Kinds.{modulus}
use Rattle.field.specs.Primes.{divides_some, is_prime}
use Rattle.field.specs.Fields.{size_of, mul, order_from, order_of}
use Rattle.generator.specs.Records.{header_of, record_fault}
use Rattle.generator.proofs.Accepts.{faultless_sound}
use Rattle.small_plans_text.specs.SmallPlans.{plan_line, size_lines, root_lines, field_lines, small_plans}
use Rattle.small_plans_text.proofs.Lines.{line_with, root_none, field_none, root_lines_lem, field_lines_lem, all_lines}
use Rattle.demands.specs.SmallPlans.{SmallPlan, as_record, as_line, as_text, plan_at, Before, SmallPlans}

-- lists of plans by a number, from i on, one after the other
plans_from : (ℕ → List SmallPlan) → ℕ → ℕ → List SmallPlan
plans_from g i zero = []
plans_from g i (suc n) = g i ++ plans_from g (i + 1) n

-- their text
text_append : (xs ys : List SmallPlan) → as_text (xs ++ ys) ≡ as_text xs ++ as_text ys
unfolding as_text
text_append [] ys = refl
text_append (x ∷ xs) ys = ap (λ l. as_line x ++ l) (text_append xs ys) ∙ sym (append_assoc (as_line x) (as_text xs) (as_text ys))

text_from : (g : ℕ → List SmallPlan) (f : ℕ → List ℕ) → ((x : ℕ) → f x ≡ as_text (g x)) → (i n : ℕ) → rows_from f i n ≡ as_text (plans_from g i n)
unfolding rows_from plans_from as_text
text_from g f e i zero = refl
text_from g f e i (suc n) = ap₂ ◌++◌ (e i) (text_from g f e (i + 1) n) ∙ sym (text_append (g i) (plans_from g (i + 1) n))

-- a plan stands at some place
abbrev StandsAt : SmallPlan → List SmallPlan → Type 0
StandsAt x xs = (i : ℕ) × (i < length xs) × (plan_at xs i ≡ x)

stands_left : (x : SmallPlan) (xs ys : List SmallPlan) → StandsAt x xs → StandsAt x (xs ++ ys)
stands_left x xs ys (i, low, is) = (i, omega (arith, length-append xs ys), get_or-append xs ys _ i low ∙ is)

stands_right : (x : SmallPlan) (xs ys : List SmallPlan) → StandsAt x ys → StandsAt x (xs ++ ys)
stands_right x xs ys (i, low, is) = (length xs + i, omega (arith, length-append xs ys), get_or-append-add xs ys i _ ∙ is)

stands_from : (x : SmallPlan) (g : ℕ → List SmallPlan) (i n j : ℕ) → i ≤ j → j < i + n → StandsAt x (g j) → StandsAt x (plans_from g i n)
unfolding plans_from
stands_from x g i zero j low high here = absurd (omega arith)
stands_from x g i (suc n) j low high here =
    by_cases (ℕ_discrete i j)
    (λ is. stands_left x (g i) (plans_from g (i + 1) n) (rw is here))
    (λ other. stands_right x (g i) (plans_from g (i + 1) n) (stands_from x g (i + 1) n j (omega arith) (omega arith) here))

-- what holds of each
all_from : (P : SmallPlan → Type 0) (g : ℕ → List SmallPlan) (i n : ℕ) → ((j : ℕ) → i ≤ j → j < i + n → All P (g j)) → All P (plans_from g i n)
unfolding plans_from
all_from P g i zero each = tt
all_from P g i (suc n) each = All-append P (g i) (plans_from g (i + 1) n) (each i (omega arith) (omega arith)) (all_from P g (i + 1) n (λ j low high. each j (omega arith) (omega arith)))

-- each before all after it
abbrev Sorted : List SmallPlan → Type 0
Sorted [] = Unit {0}
Sorted (x ∷ xs) = All (Before x) xs × Sorted xs

sorted_append : (P Q : SmallPlan → Type 0) → ((x y : SmallPlan) → P x → Q y → Before x y) → (xs ys : List SmallPlan) → All P xs → All Q ys → Sorted xs → Sorted ys → Sorted (xs ++ ys)
sorted_append P Q up [] ys a b s t = t
sorted_append P Q up (x ∷ xs) ys a b s t =
    (All-append (Before x) xs ys s.0 (All-imp Q (Before x) (λ y q. up x y a.0 q) ys b), sorted_append P Q up xs ys a.1 b s.1 t)

-- where the plans of a number have K of it, and those of a higher number come later
sorted_from : (K : ℕ → SmallPlan → Type 0) → ((i j : ℕ) (x y : SmallPlan) → i < j → K i x → K j y → Before x y) → (g : ℕ → List SmallPlan) → ((j : ℕ) → All (K j) (g j)) → ((j : ℕ) → Sorted (g j)) → (i n : ℕ) → Sorted (plans_from g i n)
unfolding plans_from
sorted_from K up g has each i zero = tt
sorted_from K up g has each i (suc n) =
    sorted_append (K i) (λ y. (j : ℕ) × (i < j) × K j y) (λ x y a b. let (j, higher, k) = b in up i j x y higher a k)
    (g i) (plans_from g (i + 1) n) (has i)
    (all_from (λ y. (j : ℕ) × (i < j) × K j y) g (i + 1) n (λ j low high. All-imp (K j) (λ y. (j : ℕ) × (i < j) × K j y) (λ y k. (j, omega arith, k)) (g j) (has j)))
    (each i) (sorted_from K up g has each (i + 1) n)

sorted_at : (xs : List SmallPlan) → Sorted xs → (i j : ℕ) → i < j → j < length xs → Before (plan_at xs i) (plan_at xs j)
sorted_at [] s i j up low = absurd (omega arith)
sorted_at (x ∷ xs) s i zero up low = absurd (omega arith)
sorted_at (x ∷ xs) s zero (suc j) up low = All-at (Before x) _ xs s.0 j (omega arith)
sorted_at (x ∷ xs) s (suc i) (suc j) up low = sorted_at xs s.1 i j (omega arith) (omega arith)

-- an accepted plan
abbrev Good : SmallPlan → Type 0
Good x = record_fault (as_record x) ≡ 0

abbrev made : ℕ → ℕ → ℕ → ℕ → SmallPlan
made p root n k = record { p = p; root = root; n = n; k = k }

-- the plans in the order of the text
one_plan : ℕ → ℕ → ℕ → ℕ → List SmallPlan
one_plan p root n k = pick (eqb (record_fault (as_record (made p root n k))) 0) (made p root n k ∷ []) []

size_plans : ℕ → ℕ → ℕ → List SmallPlan
size_plans p root k = plans_from (λ n. one_plan p root n k) 0 256

root_plans : ℕ → ℕ → List SmallPlan
root_plans p root = plans_from (size_plans p root) 0 256

field_plans : ℕ → List SmallPlan
field_plans p = plans_from (root_plans p) 0 256

all_plans : List SmallPlan
all_plans = plans_from field_plans 0 32

one_text : (p root n k : ℕ) → plan_line p root n k ≡ as_text (one_plan p root n k)
unfolding plan_line one_plan as_text
one_text p root n k =
    by_test (eqb (record_fault (as_record (made p root n k))) 0) (λ t. rw t (sym (append-nil (as_line (made p root n k))))) (λ t. rw t)

plans_text : small_plans ≡ as_text all_plans
unfolding small_plans field_lines root_lines size_lines all_plans field_plans root_plans size_plans
plans_text =
    text_from field_plans field_lines
    (λ p. text_from (root_plans p) (root_lines p)
    (λ root. text_from (size_plans p root) (size_lines p root)
    (λ k. text_from (λ n. one_plan p root n k) (λ n. plan_line p root n k) (λ n. one_text p root n k) 0 256) 0 256) 0 256) 0 32

-- what an accepted plan has
good_has : (x : SmallPlan) → Good x → (x.root < size_of x.p) × (order_of x.p x.root ≡ x.n) × (x.n ≤ 255) × (x.k ≤ x.n)
unfolding header_of modulus
good_has x good = let s = faultless_sound (as_record x) good in (s.root_below, s.order, s.byte, s.fits)

one_all : (p root n k : ℕ) → All (λ x. Good x × (x ≡ made p root n k)) (one_plan p root n k)
unfolding one_plan
one_all p root n k = by_test (eqb (record_fault (as_record (made p root n k))) 0) (λ t. rw t ((eqb-true _ 0 t, refl), tt)) (λ t. rw t tt)

one_sorted : (p root n k : ℕ) → Sorted (one_plan p root n k)
unfolding one_plan
one_sorted p root n k = by_test (eqb (record_fault (as_record (made p root n k))) 0) (λ t. rw t (tt, tt)) (λ t. rw t tt)

-- level by level: the plans with one p, root and k, with one p and root, with one p
abbrev Has : ℕ → ℕ → ℕ → SmallPlan → Type 0
Has p root k x = Good x × (x.p ≡ p) × (x.root ≡ root) × (x.k ≡ k)

size_all : (p root k : ℕ) → All (Has p root k) (size_plans p root k)
unfolding size_plans
size_all p root k =
    all_from (Has p root k) (λ n. one_plan p root n k) 0 256
    (λ n low high. All-imp (λ x. Good x × (x ≡ made p root n k)) (Has p root k) (λ x e. let (good, is) = e in (good, ap (λ (y : SmallPlan). y.p) is, ap (λ (y : SmallPlan). y.root) is, ap (λ (y : SmallPlan). y.k) is)) (one_plan p root n k) (one_all p root n k))

size_sorted : (p root k : ℕ) → Sorted (size_plans p root k)
unfolding size_plans
size_sorted p root k =
    sorted_from (λ n x. Good x × (x ≡ made p root n k))
    (λ i j x y higher a b.
    let first : order_of p root ≡ i = (good_has (made p root i k) (subst Good a.1 a.0)).1 in
    let second : order_of p root ≡ j = (good_has (made p root j k) (subst Good b.1 b.0)).1 in
    absurd (omega arith))
    (λ n. one_plan p root n k) (λ n. one_all p root n k) (λ n. one_sorted p root n k) 0 256

root_all : (p root : ℕ) → All (λ x. Good x × (x.p ≡ p) × (x.root ≡ root)) (root_plans p root)
unfolding root_plans
root_all p root =
    all_from (λ x. Good x × (x.p ≡ p) × (x.root ≡ root)) (size_plans p root) 0 256
    (λ k low high. All-imp (Has p root k) (λ x. Good x × (x.p ≡ p) × (x.root ≡ root)) (λ x e. (e.0, e.1, e.2)) (size_plans p root k) (size_all p root k))

root_sorted : (p root : ℕ) → Sorted (root_plans p root)
unfolding root_plans
root_sorted p root =
    sorted_from (Has p root) (λ i j x y higher a b. inr (a.1 ∙ sym b.1, inr (a.2 ∙ sym b.2, omega (arith, a.3, b.3))))
    (size_plans p root) (size_all p root) (size_sorted p root) 0 256

field_all : (p : ℕ) → All (λ x. Good x × (x.p ≡ p)) (field_plans p)
unfolding field_plans
field_all p =
    all_from (λ x. Good x × (x.p ≡ p)) (root_plans p) 0 256
    (λ root low high. All-imp (λ x. Good x × (x.p ≡ p) × (x.root ≡ root)) (λ x. Good x × (x.p ≡ p)) (λ x e. (e.0, e.1)) (root_plans p root) (root_all p root))

field_sorted : (p : ℕ) → Sorted (field_plans p)
unfolding field_plans
field_sorted p =
    sorted_from (λ root x. Good x × (x.p ≡ p) × (x.root ≡ root)) (λ i j x y higher a b. inr (a.1 ∙ sym b.1, inl (omega (arith, a.2, b.2))))
    (root_plans p) (root_all p) (root_sorted p) 0 256

plans_all : All (λ x. Good x × (x.p ≤ 31)) all_plans
unfolding all_plans
plans_all =
    all_from (λ x. Good x × (x.p ≤ 31)) field_plans 0 32
    (λ p low high. All-imp (λ x. Good x × (x.p ≡ p)) (λ x. Good x × (x.p ≤ 31)) (λ x e. (e.0, omega (arith, e.1))) (field_plans p) (field_all p))

plans_sorted : Sorted all_plans
unfolding all_plans
plans_sorted = sorted_from (λ p x. Good x × (x.p ≡ p)) (λ i j x y higher a b. inl (omega (arith, a.1, b.1))) field_plans field_all field_sorted 0 32

-- a symbol of a field with p up to 31 is a byte
root_byte : (p root : ℕ) → p ≤ 31 → root < size_of p → root < 256
unfolding size_of
root_byte p root small = by_test (eqb p 0) (λ t. rw t (λ low. low)) (λ t. rw t (λ low. omega arith))

one_stands : (x : SmallPlan) → Good x → StandsAt x (one_plan x.p x.root x.n x.k)
unfolding one_plan
one_stands x good = rw (eq-eqb (record_fault (as_record x)) 0 good) (0, omega arith, refl)

plans_each : (x : SmallPlan) → Good x → x.p ≤ 31 → StandsAt x all_plans
unfolding all_plans field_plans root_plans size_plans
plans_each x good small =
    let (root_low, order, byte, fits) = good_has x good in
    let root_small : x.root < 256 = root_byte x.p x.root small root_low in
    stands_from x field_plans 0 32 x.p (omega arith) (omega arith)
    (stands_from x (root_plans x.p) 0 256 x.root (omega arith) (omega arith)
    (stands_from x (size_plans x.p x.root) 0 256 x.k (omega arith) (omega arith)
    (stands_from x (λ n. one_plan x.p x.root n x.k) 0 256 x.n (omega arith) (omega arith) (one_stands x good))))

-- the first three lines: of p = 3 the root 2 alone, none of p = 4, of p = 5 first the root 2
no_root : (p root : ℕ) → order_of p root < 2 → root_lines p root ≡ []
no_root p root small = root_none p root (λ n k a. omega (arith, a.order, a.two))

three : field_lines 3 ≡ as_line (made 3 2 2 1) ++ (as_line (made 3 2 2 2) ++ [])
unfolding is_prime divides_some order_of order_from mul rows_from
three =
    field_lines_lem 3 (omega arith)
    ∙ rw (no_root 3 0 (omega arith), no_root 3 1 (omega arith), root_lines_lem 3 2 2 (omega arith) (omega arith) refl (omega arith) refl (omega arith) (omega arith)) (append-nil _)

four : field_lines 4 ≡ []
unfolding is_prime divides_some
four = field_none 4 (λ root n k a. true≢false (sym a.prime))

five : (rest : List ℕ) × (field_lines 5 ≡ as_line (made 5 2 4 1) ++ rest)
unfolding is_prime divides_some order_of order_from mul rows_from
five = (
  rows_from (line_with 5 2 4) 2 3 ++ rows_from (root_lines 5) 3 2,
  field_lines_lem 5 (omega arith)
      ∙ rw (no_root 5 0 (omega arith), no_root 5 1 (omega arith), root_lines_lem 5 2 4 (omega arith) (omega arith) refl (omega arith) refl (omega arith) (omega arith)) (append_assoc (as_line (made 5 2 4 1)) _ _),
)

first_three : (rest : List ℕ) × (small_plans ≡ as_line (made 3 2 2 1) ++ (as_line (made 3 2 2 2) ++ (as_line (made 5 2 4 1) ++ rest)))
unfolding rows_from
first_three = (
  five.0 ++ rows_from field_lines 6 26,
  all_lines ∙ rw (three, four, five.1) (simp append_assoc),
)

pub all_small_plans : SmallPlans
all_small_plans =
    record {
      plans = all_plans;
      text = plans_text;
      each = plans_each;
      other = λ i low. All-at (λ x. Good x × (x.p ≤ 31)) _ all_plans plans_all i low;
      ordered = sorted_at all_plans plans_sorted;
      first = first_three;
    }
