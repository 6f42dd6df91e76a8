-- Sums of weights times bits, bit by bit: what the sums of planes make.
use mathlib.Core.Path.{◌≡◌, refl, sym, ap, ap₂, fun_ext, ◌∙◌}
use mathlib.Core.List.{List}
use Prim.Native.Nat.{ℕ, zero, suc, ◌+◌, ◌*◌, ◌/◌, ◌%◌, ◌^◌, ◌<◌}
use native.Mathlib.Nat as Nat
use native.Mathlib.Omega.{arith}
use lib.Dec.{lit<}
use lib.Pow as Pow
use lib.ListN.{length, get_or}
use lib.Bits.{bit_xor, xor_lt, xor_shr, xor_mod, xor_block, xor_zero_r, xor_assoc}
use Rattle.field.specs.Bytes.{product}
use Rattle.field.specs.Fields.{mul}
use Rattle.field.proofs.Computed.{equal_at}
use Rattle.field.proofs.Xor.{digit}
use Rattle.field.proofs.Product.{product_right, product_zero, times_digit}
use Rattle.generator.specs.declared.Header.{Header}
use Rattle.generator.specs.Records.{modulus_of}
use Rattle.traces.specs.Traces.{TraceBits, element, xor_below}
use Rattle.traces.specs.Repairs.{bits, senders, part, repaired}
use Rattle.repair_tables.specs.Inner.Weights.{bit_weight}
use Rattle.traces.proofs.Claims.{by_width, xor_below_agree}
use Rattle.repair_tables.proofs.Steps.{element_byte}
use Rattle.repair.specs.Packing.{byte_from}
use Rattle.repair.proofs.Digits.{byte_bit, byte_below, number_bits}

-- a sum of bits is a bit, a sum of bytes a byte
pub sum_below : (k n : ℕ) (f : ℕ → ℕ) → ((i : ℕ) → f i < 2 ^ k) → xor_below n f < 2 ^ k
unfolding xor_below
sum_below k zero f low = Pow.pow_pos k
sum_below k (suc n) f low = xor_lt k (xor_below n f) (f n) (sum_below k n f low) (low n)

-- a bit of a product with a bit
bit_times : (m y z : ℕ) → m < 2 → m * y / 2 ^ z % 2 ≡ m * (y / 2 ^ z % 2)
bit_times zero y z h = ap (λ (x : ℕ). x / 2 ^ z % 2) (Nat.zero-mul y) ∙ ap (λ (x : ℕ). x % 2) (Nat.zero-div (2 ^ z)) ∙ sym (Nat.zero-mul (y / 2 ^ z % 2))
bit_times (suc zero) y z h = ap (λ (x : ℕ). x / 2 ^ z % 2) (Nat.one-mul y) ∙ sym (Nat.one-mul (y / 2 ^ z % 2))
bit_times (suc (suc m)) y z h = absurd (omega arith)

-- a bit of a sum of chosen bytes
pub bit_sum : (n z : ℕ) (m y : ℕ → ℕ) → ((q : ℕ) → m q < 2) → xor_below n (λ q. m q * y q) / 2 ^ z % 2 ≡ xor_below n (λ q. m q * (y q / 2 ^ z % 2))
unfolding xor_below
bit_sum zero z m y low = ap (λ (x : ℕ). x % 2) (Nat.zero-div (2 ^ z))
bit_sum (suc n) z m y low =
    ap (λ (x : ℕ). x % 2) (xor_shr (xor_below n (λ q. m q * y q)) (m n * y n) z)
    ∙ xor_mod (xor_below n (λ q. m q * y q) / 2 ^ z) (m n * y n / 2 ^ z) 1
    ∙ ap₂ bit_xor (bit_sum n z m y low) (bit_times (m n) (y n) z (low n))

-- a number from sums of bits
byte_xor : (f i : ℕ) (c d : ℕ → ℕ) → ((p : ℕ) → c p < 2) → ((p : ℕ) → d p < 2) → byte_from f (λ p. bit_xor (c p) (d p)) i ≡ bit_xor (byte_from f c i) (byte_from f d i)
unfolding byte_from
byte_xor zero i c d lc ld = refl
byte_xor (suc f) i c d lc ld =
    let X : ℕ = byte_from f c (i + 1) in
    let Y : ℕ = byte_from f d (i + 1) in
    let turn : (x y : ℕ) → x + 2 * y ≡ y * 2 + x = λ x y. omega arith in
    ap (λ (y : ℕ). bit_xor (c i) (d i) + 2 * y) (byte_xor f (i + 1) c d lc ld)
    ∙ turn (bit_xor (c i) (d i)) (bit_xor X Y)
    ∙ sym (xor_block 1 X Y (c i) (d i) (lc i) (ld i))
    ∙ ap₂ bit_xor (sym (turn (c i) X)) (sym (turn (d i) Y))

-- a weight times a bit, by the weight's bits
byte_weight : (w b : ℕ) → w < 256 → b < 2 → byte_from 8 (λ p. w / 2 ^ p % 2 * b) 0 ≡ w * b
unfolding byte_from
byte_weight w zero hw hb = ap (λ (d : ℕ → ℕ). byte_from 8 d 0) (fun_ext (λ p. Nat.mul-zero (w / 2 ^ p % 2))) ∙ sym (Nat.mul-zero w)
byte_weight w (suc zero) hw hb = ap (λ (d : ℕ → ℕ). byte_from 8 d 0) (fun_ext (λ p. Nat.mul-one (w / 2 ^ p % 2))) ∙ number_bits 8 w hw ∙ sym (Nat.mul-one w)
byte_weight w (suc (suc b)) hw hb = absurd (omega arith)

bit_product : (x b : ℕ) → b < 2 → x % 2 * b < 2
bit_product x zero h = rw (Nat.mul-zero (x % 2)) (lit< tt)
bit_product x (suc zero) h = rw (Nat.mul-one (x % 2)) (digit x)
bit_product x (suc (suc b)) h = absurd (omega arith)

-- a sum of weights times bits, from its eight bits
pub byte_sum : (n : ℕ) (w b : ℕ → ℕ) → ((q : ℕ) → w q < 256) → ((q : ℕ) → b q < 2) → byte_from 8 (λ p. xor_below n (λ q. w q / 2 ^ p % 2 * b q)) 0 ≡ xor_below n (λ q. w q * b q)
unfolding xor_below byte_from
byte_sum zero w b hw hb = refl
byte_sum (suc n) w b hw hb =
    byte_xor 8 0 (λ p. xor_below n (λ q. w q / 2 ^ p % 2 * b q)) (λ p. w n / 2 ^ p % 2 * b n)
    (λ p. sum_below 1 n (λ q. w q / 2 ^ p % 2 * b q) (λ q. bit_product (w q / 2 ^ p) (b q) (hb q)))
    (λ p. bit_product (w n / 2 ^ p) (b n) (hb n))
    ∙ ap₂ bit_xor (byte_sum n w b hw hb) (byte_weight (w n) (b n) (hw n) (hb n))

-- sums in two stretches, and in rows
sum_append : (m n : ℕ) (f : ℕ → ℕ) → xor_below (m + n) f ≡ bit_xor (xor_below m f) (xor_below n (λ i. f (m + i)))
unfolding xor_below
sum_append m zero f = ap (λ (k : ℕ). xor_below k f) (Nat.add-zero m) ∙ sym (xor_zero_r (xor_below m f))
sum_append m (suc n) f =
    ap (λ (k : ℕ). xor_below k f) (Nat.add-suc m n)
    ∙ ap (λ (x : ℕ). bit_xor x (f (m + n))) (sum_append m n f)
    ∙ xor_assoc (xor_below m f) (xor_below n (λ i. f (m + i))) (f (m + n))

pub sum_rows : (m b : ℕ) (f : ℕ → ℕ) → xor_below (m * b) f ≡ xor_below m (λ r. xor_below b (λ e. f (r * b + e)))
unfolding xor_below
sum_rows zero b f = ap (λ (k : ℕ). xor_below k f) (Nat.zero-mul b)
sum_rows (suc m) b f =
    ap (λ (k : ℕ). xor_below k f) (Nat.suc-mul m b)
    ∙ sum_append (m * b) b f
    ∙ ap (λ (x : ℕ). bit_xor x (xor_below b (λ e. f (m * b + e)))) (sum_rows m b f)

-- an element by its bits
element_number : (b : ℕ) → TraceBits b → (v : ℕ) → v < 2 ^ b → element b v ≡ xor_below b (λ e. element b (2 ^ e) * (v / 2 ^ e % 2))
unfolding element xor_below
element_number b w =
    by_width (λ b. (v : ℕ) → v < 2 ^ b → element b v ≡ xor_below b (λ e. element b (2 ^ e) * (v / 2 ^ e % 2)))
    (equal_at 2 (element 1) (λ v. xor_below 1 (λ e. element 1 (2 ^ e) * (v / 2 ^ e % 2))) tt)
    (equal_at 4 (element 2) (λ v. xor_below 2 (λ e. element 2 (2 ^ e) * (v / 2 ^ e % 2))) tt)
    (equal_at 16 (element 4) (λ v. xor_below 4 (λ e. element 4 (2 ^ e) * (v / 2 ^ e % 2))) tt)
    b w

pub element_bits : (b : ℕ) (f : ℕ → ℕ) → TraceBits b → ((e : ℕ) → f e < 2) → element b (byte_from b f 0) ≡ xor_below b (λ e. element b (2 ^ e) * f e)
element_bits b f w low =
    element_number b w (byte_from b f 0) (byte_below f low b 0)
    ∙ xor_below_agree b _ _ (λ e l. ap (λ (x : ℕ). element b (2 ^ e) * x) (byte_bit f low b 0 e l ∙ ap f (Nat.zero-add e)))

-- a product with a sum
mul_bit : (y x b : ℕ) → b < 2 → mul 0 y (x * b) ≡ mul 0 y x * b
unfolding mul
mul_bit y x zero h = ap (product y) (Nat.mul-zero x) ∙ product_zero y ∙ sym (Nat.mul-zero (product y x))
mul_bit y x (suc zero) h = ap (product y) (Nat.mul-one x) ∙ sym (Nat.mul-one (product y x))
mul_bit y x (suc (suc b)) h = absurd (omega arith)

mul_sum : (y n : ℕ) (f : ℕ → ℕ) → ((e : ℕ) → f e < 256) → mul 0 y (xor_below n f) ≡ xor_below n (λ e. mul 0 y (f e))
unfolding xor_below mul
mul_sum y zero f low = product_zero y
mul_sum y (suc n) f low = product_right y (xor_below n f) (f n) (sum_below 8 n f low) (low n) ∙ ap (λ (x : ℕ). bit_xor x (product y (f n))) (mul_sum y n f low)

element_bit_below : (b e f : ℕ) → f < 2 → element b (2 ^ e) * f < 256
element_bit_below b e f h = times_digit (element b (2 ^ e)) f (element_byte b (2 ^ e)) h

part_zero : (p y b : ℕ) (f : ℕ → ℕ) → p ≡ 0 → TraceBits b → ((e : ℕ) → f e < 2) → mul p y (element b (byte_from b f 0)) ≡ xor_below b (λ e. mul p y (element b (2 ^ e)) * f e)
part_zero p y b f kind w low =
    rw kind
    (ap (mul 0 y) (element_bits b f w low)
    ∙ mul_sum y b (λ e. element b (2 ^ e) * f e) (λ e. element_bit_below b e (f e) (low e))
    ∙ xor_below_agree b _ _ (λ e l. mul_bit y (element b (2 ^ e)) (f e) (low e)))

-- the bits' parts make the digit's part
pub part_bits : (h : Header) (b t j : ℕ) (f : ℕ → ℕ) → modulus_of h ≡ 0 → TraceBits b → ((e : ℕ) → f e < 2) → part h b t j (byte_from b f 0) ≡ xor_below b (λ e. part h b t j (2 ^ e) * f e)
unfolding part
part_bits h b t j f kind w low = part_zero (modulus_of h) _ b f kind w low

-- the weight of bit e of the r-th sender
weight_at : (h : Header) (b t : ℕ) (js : List ℕ) (r e : ℕ) → e < b → bit_weight h b t js (r * b + e) ≡ part h b t (get_or js r 0) (2 ^ e)
unfolding bit_weight
weight_at h b t js r e l =
    let row : (r * b + e) / b ≡ r = Nat.mul-add-div_right (omega arith) r e ∙ ap (λ (x : ℕ). r + x) (Nat.div-eq_of_lt l) ∙ Nat.add-zero r in
    let place : (r * b + e) % b ≡ e = Nat.mul-add-mod_self_right r b e ∙ Nat.mod-eq_of_lt l in
    ap₂ (λ (x y : ℕ). part h b t (get_or js x 0) (2 ^ y)) row place

-- the symbol from all bits
pub repaired_bits : (h : Header) (t : ℕ) (missing : List ℕ) (f : ℕ → ℕ) → modulus_of h ≡ 0 → TraceBits (bits h (length missing)) → ((q : ℕ) → f q < 2) →
    let b = bits h (length missing) in
    xor_below (length (senders h t missing) * b) (λ q. bit_weight h b t (senders h t missing) q * f q) ≡ repaired h t missing (λ r. byte_from b (λ e. f (r * b + e)) 0)
unfolding repaired
repaired_bits h t missing f kind w low =
    let b = bits h (length missing) in
    let js = senders h t missing in
    sum_rows (length js) b (λ q. bit_weight h b t js q * f q)
    ∙ xor_below_agree (length js) _ _
    (λ r l.
    xor_below_agree b _ _ (λ e m. ap (λ (x : ℕ). x * f (r * b + e)) (weight_at h b t js r e m))
    ∙ sym (part_bits h b t (get_or js r 0) (λ e. f (r * b + e)) kind w (λ e. low (r * b + e))))
