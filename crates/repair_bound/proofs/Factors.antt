-- What is settled by additive maps is a sum of what each of them gives: a map T of a space over two elements that vanishes where several maps S_j vanish is the sum of combinations of their digits.
-- The space need not be searched: all is shown up to a double negation, which the bound, an order of numbers, allows.
use mathlib.Core.Path.{◌≡◌, refl, sym, ap, ap₂, ◌∙◌}
use mathlib.Core.List.{List, [], ◌∷◌}
use mathlib.Core.Logic.{by_cases}
use Prim.Native.Nat.{ℕ, zero, suc, ◌+◌, ◌*◌, ◌/◌, ◌%◌, ◌^◌, ◌<◌}
use native.Mathlib.Nat.{mul-zero, mul-one}
use native.Mathlib.Decide.{ℕ_discrete}
use native.Mathlib.Omega.{arith}
use lib.Arith.{lt-one}
use lib.Dec.{lit<}
use lib.Pow.{shr_lt, split}
use lib.Bits.{bit_xor, xor_lt, xor_shr, xor_mod, xor_self, xor_comm, xor_assoc}
use lib.ListN.{length}
use Rattle.lists.proofs.All.{All}
use Rattle.field.proofs.Product.{times_digit}
use Rattle.field.proofs.Xor.{digit, xor_cancel, xor_swap, times_xor}

-- the sum of those r whose digit of y is 1, the lowest digit first
unfoldable pub comb : List ℕ → ℕ → ℕ
comb [] y = 0
comb (r ∷ rs) y = bit_xor (r * (y % 2)) (comb rs (y / 2))

pub comb_additive : (rs : List ℕ) (x y : ℕ) → comb rs (bit_xor x y) ≡ bit_xor (comb rs x) (comb rs y)
unfolding comb
comb_additive [] x y = refl
comb_additive (r ∷ rs) x y =
    ap₂ bit_xor (ap (λ (d : ℕ). r * d) (xor_mod x y 1) ∙ times_xor r (x % 2) (y % 2) (digit x) (digit y))
    (ap (comb rs) (xor_shr x y 1) ∙ comb_additive rs (x / 2) (y / 2))
    ∙ xor_swap (r * (x % 2)) (r * (y % 2)) (comb rs (x / 2)) (comb rs (y / 2))

pub comb_zero : (rs : List ℕ) → comb rs 0 ≡ 0
comb_zero rs = comb_additive rs 0 0 ∙ xor_self (comb rs 0)

-- the rs are bytes
abbrev pub Bytes : List ℕ → Type 0
Bytes rs = All (λ r. r < 256) rs

pub comb_byte : (rs : List ℕ) (y : ℕ) → Bytes rs → comb rs y < 256
unfolding comb
comb_byte [] y h = lit< tt
comb_byte (r ∷ rs) y h = xor_lt 8 (r * (y % 2)) (comb rs (y / 2)) (times_digit r (y % 2) h.0 (digit y)) (comb_byte rs (y / 2) h.1)

-- the sum of f j over the numbers j below m
unfoldable pub xors : ℕ → (ℕ → ℕ) → ℕ
xors zero f = 0
xors (suc m) f = bit_xor (f 0) (xors m (λ j. f (suc j)))

pub xors_add : (m : ℕ) (f g : ℕ → ℕ) → xors m (λ j. bit_xor (f j) (g j)) ≡ bit_xor (xors m f) (xors m g)
unfolding xors
xors_add zero f g = refl
xors_add (suc m) f g = ap (bit_xor (bit_xor (f 0) (g 0))) (xors_add m (λ j. f (suc j)) (λ j. g (suc j))) ∙ xor_swap (f 0) (g 0) (xors m (λ j. f (suc j))) (xors m (λ j. g (suc j)))

pub xors_ext : (m : ℕ) (f g : ℕ → ℕ) → ((j : ℕ) → j < m → f j ≡ g j) → xors m f ≡ xors m g
unfolding xors
xors_ext zero f g h = refl
xors_ext (suc m) f g h = ap₂ bit_xor (h 0 (omega arith)) (xors_ext m (λ j. f (suc j)) (λ j. g (suc j)) (λ j l. h (suc j) (omega arith)))

pub xors_byte : (m : ℕ) (f : ℕ → ℕ) → ((j : ℕ) → j < m → f j < 256) → xors m f < 256
unfolding xors
xors_byte zero f h = lit< tt
xors_byte (suc m) f h = xor_lt 8 (f 0) (xors m (λ j. f (suc j))) (h 0 (omega arith)) (xors_byte m (λ j. f (suc j)) (λ j l. h (suc j) (omega arith)))

-- a list, and those of R after it
abbrev pub front : List ℕ → (ℕ → List ℕ) → ℕ → List ℕ
front rs R zero = rs
front rs R (suc j) = R j

module _ {Space : Type 0} (◌⊕◌ : Space → Space → Space) where
  infixl 70 ◌⊕◌
  -- T makes bytes of what P holds of, and sums of sums
  pub record Linear (P : Space → Type 0) (T : Space → ℕ) : Type 0 where
    pub byte : (v : Space) → P v → T v < 256
    pub add : (v w : Space) → P v → P w → T (v ⊕ w) ≡ bit_xor (T v) (T w)

  -- P holds of sums
  abbrev pub Closed : (Space → Type 0) → Type 0
  Closed P = (v w : Space) → P v → P w → P (v ⊕ w)

  -- S has b digits, and makes sums of sums
  pub record Digits (P : Space → Type 0) (b : ℕ) (S : Space → ℕ) : Type 0 where
    pub low : (v : Space) → P v → S v < 2 ^ b
    pub add : (v w : Space) → P v → P w → S (v ⊕ w) ≡ bit_xor (S v) (S w)

  -- one map
  pub factor : (b : ℕ) (P : Space → Type 0) (S T : Space → ℕ) → Closed P → Digits P b S → Linear P T → ((v : Space) → P v → S v ≡ 0 → T v ≡ 0) → ((rs : List ℕ) → length rs ≡ b → Bytes rs → ((v : Space) → P v → T v ≡ comb rs (S v)) → ⊥) → ⊥
  unfolding comb
  factor zero P S T c d l z k = k [] refl tt (λ v p. z v p (lt-one (d.low v p)))
  factor (suc b) P S T c d l z k =
      factor b Q (λ v. S v / 2) T closed halves (record { byte = λ v q. l.byte v q.0; add = λ v w q r. l.add v w q.0 r.0 })
      (λ v q e. z v q.0 (sym (split (S v) 1) ∙ ap₂ (λ (x y : ℕ). x * 2 + y) e q.1))
      (λ rs long bytes is.
      let none : (x : Space) → P x → S x % 2 ≡ 1 → ⊥ = λ x p o.
      k (rest rs x ∷ rs) (ap suc long) (xor_lt 8 (T x) (comb rs (S x / 2)) (l.byte x p) (comb_byte rs (S x / 2) bytes), bytes)
      (λ v q. by_cases (ℕ_discrete (S v % 2) 0) (even rs is (rest rs x) v q) (λ n. odd rs is x v p q o (omega (arith, digit (S v))))) in
      k (0 ∷ rs) (ap suc long) (lit< tt, bytes)
      (λ v q. by_cases (ℕ_discrete (S v % 2) 0) (even rs is 0 v q) (λ n. absurd (none v q (omega (arith, digit (S v)))))))
    where
      Q : Space → Type 0
      Q v = P v × (S v % 2 ≡ 0)

      -- what the rs leave of T
      rest : List ℕ → Space → ℕ
      rest rs x = bit_xor (T x) (comb rs (S x / 2))

      closed : Closed Q
      closed v w q r = (c v w q.0 r.0, ap (λ (x : ℕ). x % 2) (d.add v w q.0 r.0) ∙ xor_mod (S v) (S w) 1 ∙ ap₂ bit_xor q.1 r.1)

      halves : Digits Q b (λ v. S v / 2)
      halves = record {
        low = λ v q. shr_lt b 1 (let e : b + 1 ≡ suc b = omega arith in rw e (d.low v q.0));
        add = λ v w q r. ap (λ (x : ℕ). x / 2) (d.add v w q.0 r.0) ∙ xor_shr (S v) (S w) 1;
      }

      even : (rs : List ℕ) → ((v : Space) → Q v → T v ≡ comb rs (S v / 2)) → (r : ℕ) (v : Space) → P v → S v % 2 ≡ 0 → T v ≡ bit_xor (r * (S v % 2)) (comb rs (S v / 2))
      even rs is r v p e = is v (p, e) ∙ rw (e, mul-zero r) refl

      odd : (rs : List ℕ) → ((v : Space) → Q v → T v ≡ comb rs (S v / 2)) → (x v : Space) → P x → P v → S x % 2 ≡ 1 → S v % 2 ≡ 1 → T v ≡ bit_xor (rest rs x * (S v % 2)) (comb rs (S v / 2))
      odd rs is x v p q o e =
          let half : S (v ⊕ x) / 2 ≡ bit_xor (S v / 2) (S x / 2) = ap (λ (y : ℕ). y / 2) (d.add v x q p) ∙ xor_shr (S v) (S x) 1 in
          let low : S (v ⊕ x) % 2 ≡ 0 = ap (λ (y : ℕ). y % 2) (d.add v x q p) ∙ xor_mod (S v) (S x) 1 ∙ ap₂ bit_xor e o in
          let both : bit_xor (T v) (T x) ≡ bit_xor (comb rs (S v / 2)) (comb rs (S x / 2)) = sym (l.add v x q p) ∙ is (v ⊕ x) (c v x q p, low) ∙ ap (comb rs) half ∙ comb_additive rs (S v / 2) (S x / 2) in
          sym (xor_cancel (T v) (T x)) ∙ ap (λ (y : ℕ). bit_xor y (T x)) both
          ∙ xor_assoc (comb rs (S v / 2)) (comb rs (S x / 2)) (T x) ∙ xor_comm (comb rs (S v / 2)) (bit_xor (comb rs (S x / 2)) (T x))
          ∙ ap (λ (y : ℕ). bit_xor y (comb rs (S v / 2))) (xor_comm (comb rs (S x / 2)) (T x) ∙ sym (mul-one (rest rs x)) ∙ ap (λ (y : ℕ). rest rs x * y) (sym e))

  -- m maps
  pub factors : (m : ℕ) (P : Space → Type 0) (b : ℕ → ℕ) (S : ℕ → Space → ℕ) (T : Space → ℕ) → Closed P → ((j : ℕ) → j < m → Digits P (b j) (S j)) → Linear P T → ((v : Space) → P v → ((j : ℕ) → j < m → S j v ≡ 0) → T v ≡ 0) → ((R : ℕ → List ℕ) → ((j : ℕ) → j < m → (length (R j) ≡ b j) × Bytes (R j)) → ((v : Space) → P v → T v ≡ xors m (λ j. comb (R j) (S j v))) → ⊥) → ⊥
  unfolding xors
  factors zero P b S T c d l z k = k (λ j. []) (λ j h. absurd (omega arith)) (λ v p. z v p (λ j h. absurd (omega arith)))
  factors (suc m) P b S T c d l z k =
      factors m Q (λ j. b (suc j)) (λ j. S (suc j)) T closed
      (λ j h. let e = d (suc j) (omega arith) in record { low = λ v q. e.low v q.0; add = λ v w q r. e.add v w q.0 r.0 })
      (record { byte = λ v q. l.byte v q.0; add = λ v w q r. l.add v w q.0 r.0 })
      (λ v q e. z v q.0 (every v q.1 e))
      (λ R good is.
      factor (b 0) P (S 0) (rest R) c (d 0 (omega arith)) (linear R (λ j h. (good j h).1))
      (λ v p e. ap (λ (x : ℕ). bit_xor x (others R v)) (is v (p, e)) ∙ xor_self (others R v))
      (λ rs long bytes first.
      k (front rs R) (shaped rs R long bytes good)
      (λ v p. sym (xor_cancel (T v) (others R v)) ∙ ap (λ (x : ℕ). bit_xor x (others R v)) (first v p))))
    where
      Q : Space → Type 0
      Q v = P v × (S 0 v ≡ 0)

      closed : Closed Q
      closed v w q r = (c v w q.0 r.0, (d 0 (omega arith)).add v w q.0 r.0 ∙ ap₂ bit_xor q.1 r.1)

      every : (v : Space) → S 0 v ≡ 0 → ((j : ℕ) → j < m → S (suc j) v ≡ 0) → (j : ℕ) → j < suc m → S j v ≡ 0
      every v e h zero i = e
      every v e h (suc j) i = h j (omega arith)

      others : (ℕ → List ℕ) → Space → ℕ
      others R v = xors m (λ j. comb (R j) (S (suc j) v))

      rest : (ℕ → List ℕ) → Space → ℕ
      rest R v = bit_xor (T v) (others R v)

      linear : (R : ℕ → List ℕ) → ((j : ℕ) → j < m → Bytes (R j)) → Linear P (rest R)
      linear R bytes = record {
        byte = λ v p. xor_lt 8 (T v) (others R v) (l.byte v p) (xors_byte m (λ j. comb (R j) (S (suc j) v)) (λ j h. comb_byte (R j) (S (suc j) v) (bytes j h)));
        add = λ v w p q.
            ap₂ bit_xor (l.add v w p q)
            (xors_ext m _ _ (λ j h. ap (comb (R j)) ((d (suc j) (omega arith)).add v w p q) ∙ comb_additive (R j) (S (suc j) v) (S (suc j) w))
            ∙ xors_add m (λ j. comb (R j) (S (suc j) v)) (λ j. comb (R j) (S (suc j) w)))
            ∙ xor_swap (T v) (T w) (others R v) (others R w);
      }

      shaped : (rs : List ℕ) (R : ℕ → List ℕ) → length rs ≡ b 0 → Bytes rs → ((j : ℕ) → j < m → (length (R j) ≡ b (suc j)) × Bytes (R j)) → (j : ℕ) → j < suc m → (length (front rs R j) ≡ b j) × Bytes (front rs R j)
      shaped rs R long bytes good zero h = (long, bytes)
      shaped rs R long bytes good (suc j) h = good j (omega arith)
