-- The traces of the field of 256 elements: in the algebra's terms, and onto their subfields.
use mathlib.Core.Path.{◌≡◌, refl, sym, ap, ap₂, fun_ext, ◌∙◌}
use Prim.Native.Nat.{ℕ, zero, suc, ◌*◌, ◌/◌, ◌%◌, ◌^◌, ◌≤◌, ◌<◌}
use native.Mathlib.Nat as Nat
use native.Mathlib.Omega.{arith}
use lib.Bits.{bit_xor, xor_self, xor_shr, xor_mod}
use Rattle.algebra.specs.Field.{Field}
use Rattle.algebra.specs.Powers.{pow}
use Rattle.algebra.proofs.Powers.{pow_mul}
use Rattle.algebra.proofs.Sums.{sum}
use Rattle.field.specs.Bytes.{times_x, product_from, product}
use Rattle.field.specs.Fields.{size_of, add, mul}
use Rattle.field.specs.Symbols.{Symbol}
use Rattle.field.proofs.Computed.{equal_at}
use Rattle.field.proofs.Additive.{Additive, agree}
use Rattle.field.proofs.Xor.{digit, xor_swap, times_xor}
use Rattle.field.proofs.Symbols.{symbol, symbol_below, symbol_path}
use Rattle.field.proofs.FieldOf.{field_of}
use Rattle.field.proofs.Meanings.{byte_field}
use Rattle.traces.specs.Traces.{squarings, trace_from, trace_of, element}
use Rattle.traces.proofs.Frobenius.{Frobenius, trace, power_add, square_add}

-- the field
abbrev pub bytes : Field
bytes = field_of 0 byte_field

-- a symbol's number is a byte
byte : (a : Symbol (size_of 0)) → a.0 < 256
unfolding size_of
byte a = symbol_below 256 a

-- 1 + 1 = 0
pub bytes_even : (a : Symbol (size_of 0)) → bytes.add a a ≡ bytes.0f
unfolding add
bytes_even a = symbol_path (size_of 0) (xor_self a.0)

-- powers by squarings
pub squarings_are : (b : ℕ) (a : Symbol (size_of 0)) → (pow bytes a (2 ^ b)).0 ≡ squarings b a.0
unfolding squarings
squarings_are zero a = rw (Nat.pow-zero 2) (ap (λ (x : Symbol (size_of 0)). x.0) (bytes.mul-one a))
squarings_are (suc b) a =
    ap (λ (m : ℕ). (pow bytes a m).0) (Nat.pow-succ' 2 b)
    ∙ ap (λ (x : Symbol (size_of 0)). x.0) (pow_mul bytes a 2 (2 ^ b) ∙ ap (λ (x : Symbol (size_of 0)). pow bytes x (2 ^ b)) (ap (bytes.mul a) (bytes.mul-one a)))
    ∙ squarings_are b (bytes.mul a a)

-- a number below 256 as a symbol
symbol_of : (a : ℕ) → a < 256 → Symbol (size_of 0)
unfolding size_of
symbol_of a h = symbol 256 a h

squarings_additive : (b : ℕ) → Additive (squarings b)
unfolding add symbol_of
squarings_additive b x y hx hy =
    let X = symbol_of x hx in
    let Y = symbol_of y hy in
    sym (squarings_are b (bytes.add X Y))
    ∙ ap (λ (z : Symbol (size_of 0)). z.0) (power_add bytes 2 (square_add bytes bytes_even) b X Y)
    ∙ ap₂ bit_xor (squarings_are b X) (squarings_are b Y)

-- a^256 = a
squarings_eight : (a : ℕ) → a < 256 → squarings 8 a ≡ a
unfolding squarings mul product product_from times_x
squarings_eight = agree (squarings 8) (λ a. a) (squarings_additive 8) (λ a b ha hb. refl) (equal_at 8 (λ i. squarings 8 (2 ^ i)) (λ i. 2 ^ i) tt)

pub squares : Frobenius bytes 2 8
squares =
    record {
      two = omega arith;
      some = omega arith;
      additive = square_add bytes bytes_even;
      returns = λ a. symbol_path (size_of 0) (squarings_are 8 a ∙ squarings_eight a.0 (byte a));
    }

-- b names a subfield
pub record Subfield (b : ℕ) : Type 0 where
  pub two : 2 ≤ 2 ^ b
  pub terms : 0 < 8 / b
  pub whole : (2 ^ b) ^ (8 / b) ≡ 2 ^ 8
  pub elements : (y : ℕ) → y < 256 → element b (trace_of b y % 2 ^ b) ≡ trace_of b y

-- the map a ↦ a^(2^b)
pub frobenius_bytes : (b : ℕ) → Subfield b → Frobenius bytes (2 ^ b) (8 / b)
frobenius_bytes b d =
    record {
      two = d.two;
      some = d.terms;
      additive = power_add bytes 2 (square_add bytes bytes_even) b;
      returns = λ a. ap (pow bytes a) d.whole ∙ squares.returns a;
    }

-- its trace
trace_from_is : (f b : ℕ) (a : Symbol (size_of 0)) → (trace bytes (2 ^ b) f a).0 ≡ trace_from f b a.0
unfolding trace sum trace_from add
trace_from_is zero b a = refl
trace_from_is (suc f) b a =
    ap₂ bit_xor
    (ap (λ (m : ℕ). (pow bytes a m).0) (Nat.pow-zero (2 ^ b)) ∙ ap (λ (x : Symbol (size_of 0)). x.0) (bytes.mul-one a))
    (ap (λ (g : ℕ → Symbol (size_of 0)). (sum bytes f g).0) (fun_ext (λ i. ap (pow bytes a) (Nat.pow-succ' (2 ^ b) i) ∙ pow_mul bytes a (2 ^ b) ((2 ^ b) ^ i)))
    ∙ trace_from_is f b (pow bytes a (2 ^ b))
    ∙ ap (trace_from f b) (squarings_are b a))

pub trace_of_is : (b : ℕ) (a : Symbol (size_of 0)) → (trace bytes (2 ^ b) (8 / b) a).0 ≡ trace_of b a.0
unfolding trace_of
trace_of_is b a = trace_from_is (8 / b) b a

-- it keeps sums
pub squarings_byte : (b y : ℕ) → y < 256 → squarings b y < 256
unfolding symbol_of
squarings_byte b y h = rw (sym (squarings_are b (symbol_of y h))) (byte (pow bytes (symbol_of y h) (2 ^ b)))

pub trace_from_additive : (f b : ℕ) → Additive (trace_from f b)
unfolding trace_from
trace_from_additive zero b x y hx hy = refl
trace_from_additive (suc f) b x y hx hy =
    ap (bit_xor (bit_xor x y)) (ap (trace_from f b) (squarings_additive b x y hx hy) ∙ trace_from_additive f b (squarings b x) (squarings b y) (squarings_byte b x hx) (squarings_byte b y hy))
    ∙ xor_swap x y (trace_from f b (squarings b x)) (trace_from f b (squarings b y))

pub trace_additive : (b : ℕ) → Additive (trace_of b)
unfolding trace_of
trace_additive b = trace_from_additive (8 / b) b

-- m times a digit keeps sums
digit_additive : (m e : ℕ) (x y : ℕ) → m * (bit_xor x y / 2 ^ e % 2) ≡ bit_xor (m * (x / 2 ^ e % 2)) (m * (y / 2 ^ e % 2))
digit_additive m e x y =
    ap (λ (z : ℕ). m * (z % 2)) (xor_shr x y e) ∙ ap (λ (z : ℕ). m * z) (xor_mod (x / 2 ^ e) (y / 2 ^ e) 1)
    ∙ times_xor m (x / 2 ^ e % 2) (y / 2 ^ e % 2) (digit (x / 2 ^ e)) (digit (y / 2 ^ e))

-- the trace onto two elements is bit 5
pub trace_bit : (y : ℕ) → y < 256 → trace_of 1 y ≡ y / 32 % 2
unfolding trace_of trace_from squarings mul product product_from times_x
trace_bit y h = agree (trace_of 1) (λ y. 1 * (y / 2 ^ 5 % 2)) (trace_additive 1) (λ x y hx hy. digit_additive 1 5 x y) (equal_at 8 (λ i. trace_of 1 (2 ^ i)) (λ i. 1 * (2 ^ i / 2 ^ 5 % 2)) tt) y h ∙ Nat.one-mul (y / 32 % 2)

-- the elements by their lowest bits
element_two : (x y : ℕ) → element 2 (bit_xor x y) ≡ bit_xor (element 2 x) (element 2 y)
unfolding element
element_two x y =
    ap₂ bit_xor (xor_mod x y 1) (digit_additive 214 1 x y) ∙ xor_swap (x % 2) (y % 2) (214 * (x / 2 % 2)) (214 * (y / 2 % 2))

element_four : (x y : ℕ) → element 4 (bit_xor x y) ≡ bit_xor (element 4 x) (element 4 y)
unfolding element
element_four x y =
    ap₂ bit_xor
    (ap₂ bit_xor (xor_mod x y 1) (digit_additive 146 1 x y) ∙ xor_swap (x % 2) (y % 2) (146 * (x / 2 % 2)) (146 * (y / 2 % 2)))
    (ap₂ bit_xor (digit_additive 68 2 x y) (digit_additive 152 3 x y) ∙ xor_swap (68 * (x / 4 % 2)) (68 * (y / 4 % 2)) (152 * (x / 8 % 2)) (152 * (y / 8 % 2)))
    ∙ xor_swap (bit_xor (x % 2) (146 * (x / 2 % 2))) (bit_xor (y % 2) (146 * (y / 2 % 2))) (bit_xor (68 * (x / 4 % 2)) (152 * (x / 8 % 2))) (bit_xor (68 * (y / 4 % 2)) (152 * (y / 8 % 2)))

element_one : (x y : ℕ) → element 1 (bit_xor x y) ≡ bit_xor (element 1 x) (element 1 y)
unfolding element
element_one x y = xor_mod x y 1

-- a trace is the element with its lowest b bits, where it is at the powers of two
from_bits : (b : ℕ) → ((x y : ℕ) → element b (bit_xor x y) ≡ bit_xor (element b x) (element b y)) → ((i : ℕ) → i < 8 → element b (trace_of b (2 ^ i) % 2 ^ b) ≡ trace_of b (2 ^ i)) → (y : ℕ) → y < 256 → element b (trace_of b y % 2 ^ b) ≡ trace_of b y
from_bits b sums basis =
    agree (λ y. element b (trace_of b y % 2 ^ b)) (trace_of b)
    (λ x y hx hy. ap (λ (z : ℕ). element b (z % 2 ^ b)) (trace_additive b x y hx hy) ∙ ap (element b) (xor_mod (trace_of b x) (trace_of b y) b) ∙ sums (trace_of b x % 2 ^ b) (trace_of b y % 2 ^ b))
    (trace_additive b) basis

-- the three subfields
pub subfield_one : Subfield 1
unfolding element trace_of trace_from squarings mul product product_from times_x
subfield_one = record { two = omega arith; terms = omega arith; whole = refl; elements = from_bits 1 element_one (equal_at 8 (λ i. element 1 (trace_of 1 (2 ^ i) % 2 ^ 1)) (λ i. trace_of 1 (2 ^ i)) tt) }

pub subfield_two : Subfield 2
unfolding element trace_of trace_from squarings mul product product_from times_x
subfield_two = record { two = omega arith; terms = omega arith; whole = refl; elements = from_bits 2 element_two (equal_at 8 (λ i. element 2 (trace_of 2 (2 ^ i) % 2 ^ 2)) (λ i. trace_of 2 (2 ^ i)) tt) }

pub subfield_four : Subfield 4
unfolding element trace_of trace_from squarings mul product product_from times_x
subfield_four = record { two = omega arith; terms = omega arith; whole = refl; elements = from_bits 4 element_four (equal_at 8 (λ i. element 4 (trace_of 4 (2 ^ i) % 2 ^ 4)) (λ i. trace_of 4 (2 ^ i)) tt) }
