-- Sums of rows times weights, built from the first row to the last.
use mathlib.Core.Path.{◌≡◌, refl, sym, ap, ◌∙◌}
use mathlib.Core.Bool.{true}
use mathlib.Core.List.{List}
use Prim.Native.Nat.{ℕ, ◌+◌, ◌-◌, ◌*◌, ◌≤◌, ◌<◌}
use native.Mathlib.Nat.{zero-add}
use native.Mathlib.Omega.{arith}
use lib.ListN.{length, get_or, take, drop, drop_of_length-le}
use lib.Seq.{ext_get_or}
use Rattle.lists.specs.Padded.{zeros}
use Rattle.lists.specs.Numbers.{all_below}
use Rattle.lists.proofs.Front.{drop_next}
use Rattle.lists.proofs.Fill.{from_zeros, length_zeros}
use Rattle.lists.proofs.Rows.{length_from, get_or_from, get_d_part}
use Rattle.lists.proofs.Numbers.{at_below, below_at, below_drop}
use Rattle.layout.specs.Layout.{row_after_row, lane_of}
use Rattle.layout.proofs.Lawful.{by_row}
use Rattle.layout.proofs.Buffers.{length_lane, get_or_lane, lane_symbols}
use Rattle.layout.proofs.Places.{held_by_row}
use Rattle.field.specs.Fields.{is_field, size_of, add, mul}
use Rattle.field.specs.Inner.Sums.{dot}
use Rattle.field.proofs.BothKinds.{arithmetic}
use Rattle.field.proofs.Bounds.{add_below, mul_below}
use Rattle.field.proofs.FieldOf.{size_pos}
use Rattle.field.proofs.Sums.{dot_below}
use Rattle.kernel.specs.Inner.Lanes.{add_scaled}
use Rattle.kernel.proofs.Lanes.{length_lanewise, get_or_lanewise}
use Rattle.row_sums.specs.Inner.Combined.{combined, Weighted}

-- another row to write, of the same length
pub other_row : {q rows l : ℕ} {ws s : List ℕ} {n : ℕ} → Weighted q rows l ws s n → (m : ℕ) → m ≡ l → Weighted q rows l ws s m
other_row a m e = record { few = a.few; weights = a.weights; weights_below = a.weights_below; long = a.long; symbols = a.symbols; out_long = e }

pub get_or_zeros : (l t : ℕ) → t < l → get_or (zeros l) t 0 ≡ 0
get_or_zeros l t h = rw (← from_zeros (λ t. 0) 0 l (λ t low high. refl)) (get_or_from (λ t. 0) 0 l t 0 h)

module _ (p rows l : ℕ) (ws s : List ℕ) where
  -- lane t of the sum over the rows from i on
  abbrev rest_at : ℕ → ℕ → ℕ
  rest_at i t = dot p (drop i (lane_of row_after_row rows l t s)) (drop i ws)

  -- acc holds the sums over the rows below i: with those from i on they are the sums over all
  pub record Summed (i : ℕ) (acc : List ℕ) : Type 0 where
    pub long : length acc ≡ l
    pub symbols : all_below (size_of p) acc ≡ true
    pub whole : (t : ℕ) → t < l → add p (get_or acc t 0) (rest_at i t) ≡ dot p (lane_of row_after_row rows l t s) ws

  module _ (v : is_field p ≡ true) {out : ℕ} (a : Weighted (size_of p) rows l ws s out) where
    rest_below : (i t : ℕ) → t < l → rest_at i t < size_of p
    rest_below i t inside =
        dot_below p v (drop i (lane_of row_after_row rows l t s)) (drop i ws)
        (below_drop (size_of p) i (lane_of row_after_row rows l t s) (lane_symbols by_row rows l (size_of p) t s inside a.long a.symbols))
        (below_drop (size_of p) i ws a.weights_below)

    -- no row yet
    pub summed_none : Summed 0 (zeros l)
    summed_none =
        record {
          long = length_zeros l;
          symbols = at_below (size_of p) (zeros l) (λ t h. let inside : t < l = omega (arith, length_zeros l) in rw (get_or_zeros l t inside) (size_pos p v));
          whole = λ t inside.
              rw (get_or_zeros l t inside) ((arithmetic p v).add_comm 0 (rest_at 0 t) (size_pos p v) (rest_below 0 t inside) ∙ (arithmetic p v).add-zero (rest_at 0 t) (rest_below 0 t inside));
        }

    -- row i more, lent as a part of the buffer
    module _ (i : ℕ) (row : i < rows) (acc : List ℕ) (held : Summed i acc) where
      -- its symbol of lane t times its weight
      abbrev term : ℕ → ℕ
      term t = mul p (get_or (take (i * l + l - i * l) (drop (i * l) s)) t 0) (get_or ws i 0)

      symbol_at_lem : (t : ℕ) → t < l → get_or (take (i * l + l - i * l) (drop (i * l) s)) t 0 ≡ get_or (lane_of row_after_row rows l t s) i 0
      symbol_at_lem t inside = get_d_part (i * l) l s t inside ∙ sym (get_or_lane row_after_row rows l t s i row ∙ held_by_row rows l s i t)

      term_below : (t : ℕ) → t < l → term t < size_of p
      term_below t inside =
          rw (symbol_at_lem t inside)
          (mul_below p v (below_at (size_of p) (lane_of row_after_row rows l t s) (lane_symbols by_row rows l (size_of p) t s inside a.long a.symbols) i (omega (arith, length_lane row_after_row rows l t s))) (below_at (size_of p) ws a.weights_below i (omega (arith, a.weights))))

      sum_below : (t : ℕ) → t < l → get_or acc t 0 < size_of p
      sum_below t inside = below_at (size_of p) acc held.symbols t (omega (arith, held.long))

      rest_next : (t : ℕ) → t < l → rest_at i t ≡ add p (term t) (rest_at (i + 1) t)
      unfolding dot
      rest_next t inside =
          let lane : i < length (lane_of row_after_row rows l t s) = omega (arith, length_lane row_after_row rows l t s) in
          let weight : i < length ws = omega (arith, a.weights) in
          rw (symbol_at_lem t inside, drop_next (lane_of row_after_row rows l t s) i 0 lane, drop_next ws i 0 weight)

      pub summed_row : Summed (i + 1) (add_scaled p (get_or ws i 0) (take (i * l + l - i * l) (drop (i * l) s)) acc)
      unfolding add_scaled
      summed_row =
          let f : ℕ → ℕ → ℕ = λ t y. add p (term t) y in
          record {
            long = length_lanewise f acc ∙ held.long;
            symbols = at_below (size_of p) _
                (λ t h.
                let inside : t < length acc = omega (arith, length_lanewise f acc) in
                let lane : t < l = omega (arith, held.long) in
                rw (get_or_lanewise f acc t inside) (add_below p v (term_below t lane) (sum_below t lane)));
            whole = λ t lane.
                let inside : t < length acc = omega (arith, held.long) in
                let y : ℕ = get_or acc t 0 in
                let d : ℕ = rest_at (i + 1) t in
                ap (λ (x : ℕ). add p x d) (get_or_lanewise f acc t inside ∙ (arithmetic p v).add_comm (term t) y (term_below t lane) (sum_below t lane))
                ∙ (arithmetic p v).add_assoc y (term t) d (sum_below t lane) (term_below t lane) (rest_below (i + 1) t lane)
                ∙ ap (add p y) (sym (rest_next t lane))
                ∙ held.whole t lane;
          }

    -- all rows
    pub summed_all : (i : ℕ) (acc : List ℕ) → rows ≤ i → Summed i acc → acc ≡ combined row_after_row p rows l ws s
    unfolding combined dot
    summed_all i acc end held =
        ext_get_or 0 acc _ (held.long ∙ sym (length_from (λ t. dot p (lane_of row_after_row rows l t s) ws) 0 l))
        (λ t h.
        let lane : t < l = omega (arith, held.long) in
        let none : rest_at i t ≡ 0 = ap (λ (ys : List ℕ). dot p ys (drop i ws)) (drop_of_length-le (lane_of row_after_row rows l t s) {i = i} (omega (arith, length_lane row_after_row rows l t s))) in
        sym ((arithmetic p v).add-zero (get_or acc t 0) (below_at (size_of p) acc held.symbols t h))
        ∙ ap (add p (get_or acc t 0)) (sym none)
        ∙ held.whole t lane
        ∙ sym (rw zero-add at (get_or_from (λ t. dot p (lane_of row_after_row rows l t s) ws) 0 l t 0 lane)))
