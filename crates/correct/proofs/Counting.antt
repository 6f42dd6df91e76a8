-- The number of altered symbols, lane by lane.
use mathlib.Core.Path.{◌≡◌, sym, ap, ap₂, ◌∙◌}
use mathlib.Core.Bool.{not}
use mathlib.Core.List.{List}
use Prim.Native.Nat.{ℕ, ◌+◌, ◌*◌, ◌<◌}
use native.Mathlib.Nat.{zero-mul, mul_comm, add_comm}
use native.Mathlib.Omega.{arith}
use lib.Dec.{eqb}
use lib.ListN.{length, get_or}
use Rattle.lists.specs.Counting.{count_from, differ}
use Rattle.lists.proofs.Count.{count_ext, count_add, count_move}
use Rattle.lists.proofs.Differ.{unlike}
use Rattle.lists.proofs.Rows.{row_after}
use Rattle.layout.specs.Layout.{share_layout, lane_of}
use Rattle.layout.proofs.Buffers.{length_lane, get_or_lane}
use Rattle.layout.proofs.Places.{held_share}

-- the places at which two buffers differ in the lanes before t
abbrev pub apart_to : ℕ → List ℕ → List ℕ → ℕ → ℕ
apart_to n s u t = count_from (t * n) 0 (unlike s u)

pub apart_none : (n : ℕ) (s u : List ℕ) → apart_to n s u 0 ≡ 0
unfolding count_from
apart_none n s u = rw (zero-mul n)

-- one lane more
pub apart_lane : (n l : ℕ) (s u : List ℕ) (t : ℕ) → apart_to n s u (t + 1) ≡ apart_to n s u t + differ (lane_of share_layout n l t s) (lane_of share_layout n l t u)
unfolding differ
apart_lane n l s u t =
    let at : (x : List ℕ) (i : ℕ) → i < n → get_or x (i + t * n) 0 ≡ get_or (lane_of share_layout n l t x) i 0 = λ x i low. ap (λ (p : ℕ). get_or x p 0) (add_comm i (t * n)) ∙ sym (get_or_lane share_layout n l t x i low ∙ held_share n l x i t) in
    ap (λ (m : ℕ). count_from m 0 (unlike s u)) (row_after t n)
    ∙ count_add (t * n) n 0 (unlike s u)
    ∙ ap (λ (c : ℕ). apart_to n s u t + c)
    (count_move n 0 (t * n) (unlike s u)
    ∙ count_ext n 0 (λ i. unlike s u (i + t * n)) (unlike (lane_of share_layout n l t s) (lane_of share_layout n l t u)) (λ i low high. ap₂ (λ (x z : ℕ). not (eqb x z)) (at s i (omega arith)) (at u i (omega arith)))
    ∙ ap (λ (m : ℕ). count_from m 0 (unlike (lane_of share_layout n l t s) (lane_of share_layout n l t u))) (sym (length_lane share_layout n l t s)))

-- all lanes
pub apart_all : (n l : ℕ) (s u : List ℕ) → length s ≡ n * l → apart_to n s u l ≡ differ s u
unfolding differ
apart_all n l s u long = ap (λ (m : ℕ). count_from m 0 (unlike s u)) (mul_comm l n ∙ sym long)
