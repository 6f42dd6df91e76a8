-- Every byte but 0 has an inverse, a^254. Squaring is additive, so a^256 = a is settled at the eight powers of x;
-- then a^255 is equal to its square, and only 0 and 1 are.
use mathlib.Core.Path.{◌≡◌, refl, sym, ap, ap₂, ◌∙◌}
use mathlib.Core.Bool.{not}
use Prim.Native.Nat.{ℕ, zero, suc, ◌^◌, ◌<◌}
use native.Mathlib.Omega.{arith}
use lib.Dec.{eqb, eqb_refl, T_not}
use lib.Bits.{bit_xor, xor_assoc}
use Rattle.field.specs.Bytes.{times_x, product_from, product}
use Rattle.field.proofs.Computed.{at, equal_at}
use Rattle.field.proofs.Xor.{xor_cancel}
use Rattle.field.proofs.Additive.{Additive, agree}
use Rattle.field.proofs.Product.{product_byte, product_left, product_right, product_zero, product_one, product_comm, product_assoc}

-- f squarings: s^(2^f)
unfoldable pub squared : ℕ → ℕ → ℕ
squared zero s = s
squared (suc f) s = squared f (product s s)

-- the product of the f powers s^2, s^4, s^8, ..
unfoldable pub squares : ℕ → ℕ → ℕ
squares zero s = 1
squares (suc f) s = let q = product s s in product q (squares f q)

square_additive : Additive (λ s. product s s)
square_additive a b ha hb =
    product_left (bit_xor a b) a b ha hb ∙ ap₂ bit_xor (product_right a a b ha hb) (product_right b a b ha hb)
    ∙ sym (xor_assoc (bit_xor (product a a) (product a b)) (product b a) (product b b))
    ∙ ap (λ (x : ℕ). bit_xor (bit_xor (bit_xor (product a a) (product a b)) x) (product b b)) (product_comm b a hb ha)
    ∙ ap (λ (x : ℕ). bit_xor x (product b b)) (xor_cancel (product a a) (product a b))

squared_additive : (f : ℕ) → Additive (squared f)
unfolding squared
squared_additive zero a b ha hb = refl
squared_additive (suc f) a b ha hb =
    ap (squared f) (square_additive a b ha hb)
    ∙ squared_additive f (product a a) (product b b) (product_byte a a ha) (product_byte b b hb)

-- a^256 is a
squared_eight : (a : ℕ) → a < 256 → squared 8 a ≡ a
unfolding squared product product_from times_x
squared_eight = agree (squared 8) (λ a. a) (squared_additive 8) (λ a b ha hb. refl) (equal_at 8 (λ i. squared 8 (2 ^ i)) (λ i. 2 ^ i) tt)

pub squares_byte : (f s : ℕ) → s < 256 → squares f s < 256
unfolding squares
squares_byte zero s hs = omega arith
squares_byte (suc f) s hs = product_byte (product s s) (squares f (product s s)) (product_byte s s hs)

-- s·s·(s^2·s^4 ⋯ s^(2^f)) is s^(2^(f+1))
squares_twice : (f s : ℕ) → s < 256 → product s (product s (squares f s)) ≡ squared (suc f) s
unfolding squares squared
squares_twice zero s hs = ap (product s) (product_one s hs)
squares_twice (suc f) s hs =
    let q = product s s in
    sym (product_assoc s s (product q (squares f q)) hs hs) ∙ squares_twice f q (product_byte s s hs)

-- only 0 and 1 are equal to their squares
no_idempotent : (k : ℕ) → k < 254 → product (suc (suc k)) (suc (suc k)) ≡ suc (suc k) → ⊥
unfolding product product_from times_x
no_idempotent k h e =
    T_not (eqb (product (suc (suc k)) (suc (suc k))) (suc (suc k)))
    (at 254 (λ k. not (eqb (product (suc (suc k)) (suc (suc k))) (suc (suc k)))) tt k h)
    (rw e (eqb_refl (suc (suc k))))

idempotent : (e : ℕ) → e < 256 → product e e ≡ e → (e ≡ 0 → ⊥) → e ≡ 1
idempotent zero he h n = absurd (n refl)
idempotent (suc zero) he h n = refl
idempotent (suc (suc k)) he h n = absurd (no_idempotent k (omega arith) h)

-- a·a^254 is 1
pub product_squares : (a : ℕ) → 0 < a → a < 256 → product a (squares 7 a) ≡ 1
product_squares a pos ha =
    let s = squares 7 a in
    let hs : s < 256 = squares_byte 7 a ha in
    let e = product a s in
    let he : e < 256 = product_byte a s ha in
    let fixes : product a e ≡ a = squares_twice 7 a ha ∙ squared_eight a ha in
    let again : product e e ≡ e =
    ap (λ (x : ℕ). product x e) (product_comm a s ha hs) ∙ product_assoc s a e hs ha ∙ ap (product s) fixes ∙ product_comm s a hs ha in
    idempotent e he again (λ z. let n : a ≡ 0 = sym fixes ∙ ap (product a) z ∙ product_zero a in omega arith)
