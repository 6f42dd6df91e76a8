-- Four shuffles are the transposition of a square of 16 by 16.
use Rattle.std.proofs.Common.{◌≡◌, ap, ◌∙◌, List, ℕ, ◌+◌, ◌*◌, ◌/◌, ◌%◌, ◌<◌, zero-add, arith, length, get_or, set}
use Rattle.lists.proofs.Rows.{length_from, get_or_from, from_ext, from_next}
use Rattle.lists.proofs.Fill.{fills_put}
use Rattle.field.proofs.Computed.{equal_at}
use Rattle.tiles.specs.Inner.Squares.{placed, shuffled, turned}
use Rattle.lists.proofs.Parts.{Valued}

pub length_placed : (g : ℕ → ℕ) (n : ℕ) (x : List ℕ) → length (placed g n x) ≡ n
unfolding placed
length_placed g n x = length_from (λ p. get_or x (g p) 0) 0 n

pub get_or_placed : (g : ℕ → ℕ) (n : ℕ) (x : List ℕ) (p : ℕ) → p < n → get_or (placed g n x) p 0 ≡ get_or x (g p) 0
unfolding placed
get_or_placed g n x p h = rw zero-add at (get_or_from (λ p. get_or x (g p) 0) 0 n p 0 h)

pub placed_twice : (g h : ℕ → ℕ) (n m : ℕ) (x : List ℕ) → ((p : ℕ) → p < n → g p < m) → placed g n (placed h m x) ≡ placed (λ p. h (g p)) n x
unfolding placed
placed_twice g h n m x low =
    from_ext (λ p. get_or (placed h m x) (g p) 0) (λ p. get_or x (h (g p)) 0) 0 n
    (λ p a b. get_or_placed h m x (g p) (low p (omega arith)))

pub placed_ext : (g h : ℕ → ℕ) (n : ℕ) (x : List ℕ) → ((p : ℕ) → p < n → g p ≡ h p) → placed g n x ≡ placed h n x
unfolding placed
placed_ext g h n x e = from_ext _ _ 0 n (λ p a b. ap (λ (q : ℕ). get_or x q 0) (e p (omega arith)))

abbrev σ : ℕ → ℕ
σ p = p / 2 + p % 2 * 128

four : (p : ℕ) → p < 256 → σ (σ (σ (σ p))) ≡ p % 16 * 16 + p / 16
four = equal_at 256 (λ p. σ (σ (σ (σ p)))) (λ p. p % 16 * 16 + p / 16) tt

inside : (p : ℕ) → p < 256 → σ p < 256
inside p h = omega arith

pub turned_shuffled : (x : List ℕ) → shuffled (shuffled (shuffled (shuffled x))) ≡ turned x
unfolding shuffled turned
turned_shuffled x =
    ap (λ (l : List ℕ). placed σ 256 (placed σ 256 l)) (placed_twice σ σ 256 256 x inside)
    ∙ ap (placed σ 256) (placed_twice σ (λ p. σ (σ p)) 256 256 x inside)
    ∙ placed_twice σ (λ p. σ (σ (σ p))) 256 256 x inside
    ∙ placed_ext (λ p. σ (σ (σ (σ p)))) (λ p. p % 16 * 16 + p / 16) 256 x four

-- one turn of the loop of a shuffle
abbrev pub shuffled_at : List ℕ → ℕ → ℕ
shuffled_at x p = get_or x (p / 2 + p % 2 * 128) 0

pub shuffle_turn : (x : List ℕ) {start now : List ℕ} {i : ℕ} → Valued (shuffled_at x) 256 start now (2 * i) → length start ≡ 256 → i < 128 → Valued (shuffled_at x) 256 start (set (set now (2 * i) (get_or x i 0)) (2 * i + 1) (get_or x (128 + i) 0)) (2 * (i + 1))
shuffle_turn x {start} {now} {i} a long h =
    let even : 2 * i / 2 + 2 * i % 2 * 128 ≡ i = omega arith in
    let odd : (2 * i + 1) / 2 + (2 * i + 1) % 2 * 128 ≡ 128 + i = omega arith in
    let next : 2 * (i + 1) ≡ 2 * i + 1 + 1 = omega arith in
    let first = rw (from_next (shuffled_at x) 256 (2 * i) (omega arith), even) at a in
    let one = fills_put first (omega arith) in
    let second = rw (from_next (shuffled_at x) 256 (2 * i + 1) (omega arith), odd) at one in
    rw next (fills_put second (omega arith))
