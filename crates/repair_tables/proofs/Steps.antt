-- One turn of each loop, and the table of digits by two rows of sixteen.
use mathlib.Core.Path.{◌≡◌, refl, sym, ap, ◌∙◌}
use mathlib.Core.Bool.{Bool, ◌||◌}
use mathlib.Core.List.{List, [], ◌∷◌}
use mathlib.Core.Logic.{inl, inr}
use Prim.Native.Nat.{ℕ, ◌+◌, ◌-◌, ◌*◌, ◌/◌, ◌%◌, ◌^◌, ◌≤◌, ◌<◌}
use native.Mathlib.Nat.{zero-add, lt_of_lt_of_le, div-lt_iff_lt-mul, mod-lt, mul-le-mul, sub-eq-zero_of_le}
use native.Mathlib.Omega.{arith}
use lib.Dec.{eqb, lit<}
use Rattle.lists.proofs.Cases.{by_test}
use lib.Bits.{bit_xor, xor_zero_r, xor_lt, xor_mod, xor_assoc}
use lib.ListN.{length, get_or, drop, drop_of_length-le}
use lib.Pow.{pow_mono}
use Rattle.std.specs.List.{list_any}
use Rattle.lists.specs.Rows.{from}
use Rattle.lists.specs.Numbers.{is_in}
use Rattle.lists.proofs.Front.{drop_next}
use Rattle.lists.proofs.Rows.{sub_next, from_ext, get_or_from}
use Rattle.field.specs.Bytes.{product}
use Rattle.field.specs.Fields.{size_of, mul}
use Rattle.field.proofs.BothKinds.{arithmetic}
use Rattle.field.proofs.Bounds.{one_below}
use Rattle.field.proofs.Computed.{equal_at}
use Rattle.field.proofs.Product.{product_byte, product_right, times_digit}
use Rattle.field.proofs.Xor.{digit}
use Rattle.generator.specs.declared.Header.{Header}
use Rattle.generator.specs.Records.{modulus_of, size, Sound}
use Rattle.traces.specs.Traces.{TraceBits, squarings, trace_from, trace_of, element}
use Rattle.traces.specs.Repairs.{bits, erasing, eraser}
use Rattle.traces.proofs.Bounds.{erasing_below, eraser_below}
use Rattle.traces.proofs.Bytes.{trace_additive}
use Rattle.traces.proofs.Claims.{repairable}
use Rattle.traces.proofs.Words.{byte_size}
use Rattle.repair_tables.specs.declared.bits.Bits.{Bits}
use Rattle.repair_tables.specs.declared.bits.Bits.TheVariants as B
use Rattle.repair_tables.specs.Inner.Bits.{bit_count}

pub mul_byte : (a b : ℕ) → a < 256 → mul 0 a b < 256
unfolding mul
mul_byte a b h = product_byte a b h

pub squarings_next : (n i x : ℕ) → i < n → squarings (n - i) x ≡ squarings (n - (i + 1)) (mul 0 x x)
unfolding squarings
squarings_next n i x h = ap (λ (f : ℕ). squarings f x) (sub_next n i h)

pub squarings_end : (n i x : ℕ) → n ≤ i → squarings (n - i) x ≡ x
unfolding squarings
squarings_end n i x h = ap (λ (f : ℕ). squarings f x) (sub-eq-zero_of_le h)

pub trace_next : (n i b s x : ℕ) → i < n → bit_xor s (trace_from (n - i) b x) ≡ bit_xor (bit_xor s x) (trace_from (n - (i + 1)) b (squarings b x))
unfolding trace_from
trace_next n i b s x h = ap (λ (f : ℕ). bit_xor s (trace_from f b x)) (sub_next n i h) ∙ sym (xor_assoc s x (trace_from (n - (i + 1)) b (squarings b x)))

pub trace_end : (n i b s x : ℕ) → n ≤ i → bit_xor s (trace_from (n - i) b x) ≡ s
unfolding trace_from
trace_end n i b s x h = ap (λ (f : ℕ). bit_xor s (trace_from f b x)) (sub-eq-zero_of_le h) ∙ xor_zero_r s

-- an element of a subfield is a byte
digit_times : (m v : ℕ) → m < 256 → m * (v % 2) < 256
digit_times m v h = times_digit m (v % 2) h (digit v)

pub element_byte : (b v : ℕ) → element b v < 256
unfolding element
element_byte b v =
    let low : v % 2 < 256 = lt_of_lt_of_le (digit v) (omega arith) in
    by_test (eqb b 1) (λ t. rw t low)
    (λ t. by_test (eqb b 2)
    (λ u. rw (t, u) (xor_lt 8 (v % 2) (214 * (v / 2 % 2)) low (digit_times 214 (v / 2) (lit< tt))))
    (λ u. rw (t, u)
    (xor_lt 8 (bit_xor (v % 2) (146 * (v / 2 % 2))) (bit_xor (68 * (v / 4 % 2)) (152 * (v / 8 % 2)))
    (xor_lt 8 (v % 2) (146 * (v / 2 % 2)) low (digit_times 146 (v / 2) (lit< tt)))
    (xor_lt 8 (68 * (v / 4 % 2)) (152 * (v / 8 % 2)) (digit_times 68 (v / 4) (lit< tt)) (digit_times 152 (v / 8) (lit< tt))))))

-- the bits are a width, not 0 and at most 4, and their values are at most 16
pub width_of : (b : Bits) → TraceBits (bit_count b)
width_of B.One = inl refl
width_of B.Two = inr (inl refl)
width_of B.Four = inr (inr refl)

pub width_some : (b : Bits) → (0 < bit_count b) × (bit_count b ≤ 4) × (0 < 2 ^ bit_count b) × (2 ^ bit_count b ≤ 16)
width_some B.One = (omega arith, omega arith, omega arith, omega arith)
width_some B.Two = (omega arith, omega arith, omega arith, omega arith)
width_some B.Four = (omega arith, omega arith, omega arith, omega arith)

-- 1 shifted
pub needed_is : (b : Bits) → 1 * 2 ^ (8 - bit_count b) % 18446744073709551616 ≡ 2 ^ (8 - bit_count b)
needed_is B.One = refl
needed_is B.Two = refl
needed_is B.Four = refl

pub digit_place : (e : ℕ) → e < 4 → 1 * 2 ^ e % 4294967296 ≡ 2 ^ e
digit_place e h = let three : e ≤ 3 = omega arith in omega (arith, pow_mono {j = 3} three)

-- where there are bits the field has 256 elements
pub binary_of : (h : Header) (m : ℕ) (b : Bits) → bit_count b ≡ bits h m → modulus_of h ≡ 0
binary_of h m b e = (repairable h m (λ z. omega (arith, e, width_some b))).kind

-- a product in the field that p names, where p is 0
pub mul_kind : (p a b : ℕ) → p ≡ 0 → a < 256 → mul p a b < 256
mul_kind p a b e h = rw e (mul_byte a b h)

pub symbol_kind : (p a : ℕ) → p ≡ 0 → a < 256 → a < size_of p
symbol_kind p a e h = rw (byte_size p e) h

pub kind_symbol : (p a : ℕ) → p ≡ 0 → a < size_of p → a < 256
kind_symbol p a e h = rw (byte_size p e) at h

-- the digit of a symbol by those of its lower and its upper four bits
abbrev pub digit_of : ℕ → ℕ → ℕ → ℕ → ℕ
digit_of p b f x = trace_of b (mul p f x) % 2 ^ b

digit_sum : (p b f x y : ℕ) → p ≡ 0 → f < 256 → x < 256 → y < 256 → digit_of p b f (bit_xor x y) ≡ bit_xor (digit_of p b f x) (digit_of p b f y)
unfolding mul
digit_sum p b f x y e hf hx hy =
    rw e
    (ap (λ (z : ℕ). trace_of b z % 2 ^ b) (product_right f x y hx hy)
    ∙ ap (λ (z : ℕ). z % 2 ^ b) (trace_additive b (product f x) (product f y) (product_byte f x hf) (product_byte f y hf))
    ∙ xor_mod (trace_of b (product f x)) (trace_of b (product f y)) b)

halves : (x : ℕ) → x < 256 → bit_xor (x % 16 * 1) (x / 16 * 16) ≡ x
halves = equal_at 256 (λ x. bit_xor (x % 16 * 1) (x / 16 * 16)) (λ x. x) tt

pub table_is : (p b f : ℕ) (low high : List ℕ) → p ≡ 0 → f < 256 → low ≡ from (λ i. digit_of p b f (i * 1)) 0 16 → high ≡ from (λ i. digit_of p b f (i * 16)) 0 16 → from (λ x. bit_xor (get_or low (x % 16) 0) (get_or high (x / 16) 0)) 0 256 ≡ from (digit_of p b f) 0 256
table_is p b f low high e hf l u =
    from_ext _ _ 0 256
    (λ x _ h.
    rw (l, u, get_or_from (λ i. digit_of p b f (i * 1)) 0 16 (x % 16) 0 (omega arith), get_or_from (λ i. digit_of p b f (i * 16)) 0 16 (x / 16) 0 (omega arith), zero-add (x % 16), zero-add (x / 16))
    (sym (digit_sum p b f (x % 16 * 1) (x / 16 * 16) e hf (omega arith) (omega arith)) ∙ ap (digit_of p b f) (halves x (omega arith))))

-- the product over the missing nodes: what is left of it before the first, one more node, after the last
module _ (h : Header) (s : Sound h) (t u : ℕ) (low : u < size h) (missing : List ℕ) where
  pub eraser_start : mul (modulus_of h) 1 (eraser h t u missing) ≡ eraser h t u missing
  eraser_start =
      let below = eraser_below h s t u missing low in
      (arithmetic (modulus_of h) s.field).mul_comm 1 _ (one_below (modulus_of h) s.field) below ∙ (arithmetic (modulus_of h) s.field).mul-one _ below

  pub eraser_next : (i x : ℕ) → i < length missing → x < size h → mul (modulus_of h) (mul (modulus_of h) x (erasing h t u (get_or missing i 0))) (eraser h t u (drop (i + 1) missing)) ≡ mul (modulus_of h) x (eraser h t u (drop i missing))
  unfolding eraser
  eraser_next i x l few =
      (arithmetic (modulus_of h) s.field).mul_assoc x _ _ few (erasing_below h s t u (get_or missing i 0) low) (eraser_below h s t u (drop (i + 1) missing) low)
      ∙ ap (λ (js : List ℕ). mul (modulus_of h) x (eraser h t u js)) (sym (drop_next missing i 0 l))

  pub eraser_end : (i x : ℕ) → length missing ≤ i → x < size h → mul (modulus_of h) x (eraser h t u (drop i missing)) ≡ x
  unfolding eraser
  eraser_end i x l few = ap (λ (js : List ℕ). mul (modulus_of h) x (eraser h t u js)) (drop_of_length-le missing {i = i} l) ∙ (arithmetic (modulus_of h) s.field).mul-one x few

-- a number in a list, by a search
pub any_is_in : (x : ℕ) (l : List ℕ) → list_any (λ y. eqb x y) l ≡ is_in x l
unfolding is_in
any_is_in x [] = refl
any_is_in x (y ∷ l) = ap (λ (r : Bool). eqb x y || r) (any_is_in x l)

-- the node and the bit of a number below m·b
pub width_parts : (b : Bits) (q m : ℕ) → q < m * bit_count b → (q / bit_count b < m) × (q % bit_count b < 4)
width_parts b q m l = ((div-lt_iff_lt-mul (width_some b).0).1 l, lt_of_lt_of_le (mod-lt q (width_some b).0) (width_some b).1)

-- 255 nodes have at most 1,020 bits
pub bits_fit : (m : ℕ) (b : Bits) → m ≤ 255 → m * bit_count b ≤ 1020
bits_fit m b h = mul-le-mul h (width_some b).1
