-- Sums of products, row after row, each in two sums of 16 binary digits.
use Rattle.std.proofs.Common.{◌≡◌, ℕ, ◌+◌, ◌-◌, ◌*◌, ◌/◌, ◌%◌, ◌<◌, ◌≤◌, true, List, [], ◌∷◌, length, get_or, take, drop, sym, ap, ◌∙◌, ap₂, add-zero, add_assoc, mul-zero, mod-eq_of_lt, mul_comm, zero-add, arith, drop_of_length-le}
use native.Mathlib.Nat.{zero-mod, zero-div, mod-mod, add-mod-mod, mod-add-mod}
use Rattle.lists.specs.Rows.{from}
use Rattle.lists.specs.Padded.{zeros}
use Rattle.lists.specs.Numbers.{all_below}
use Rattle.lists.proofs.Fill.{length_zeros}
use Rattle.lists.proofs.Front.{drop_next}
use Rattle.lists.proofs.Numbers.{below_at}
use Rattle.lists.proofs.Rows.{from_ext, row_inside, get_d_part}
use Rattle.lists.proofs.Padding.{get_or_zeros}
use Rattle.field.specs.Fields.{mul}
use Rattle.field.specs.Inner.Sums.{dot}
use Rattle.field.proofs.Meanings.{add_modulo, mul_modulo}
use Rattle.field.proofs.Modular.{mod_mul_mod}
use Rattle.kernel.specs.Inner.Halves.{wrapped, total_of}
use Rattle.kernel.proofs.Ratio.{byte_product}
use Rattle.kernel.proofs.Lanes.{length_lanewise, get_or_lanewise, lanewise_same}
use Rattle.layout.specs.Layout.{row_after_row, lane_of}
use Rattle.layout.proofs.Buffers.{length_lane, get_or_lane}
use Rattle.layout.proofs.Places.{held_by_row}
use Rattle.row_sums.specs.Inner.Combined.{combined}
use Rattle.row_sums.proofs.Halves.{Half, half_more, half_total}
use Rattle.tile_products.specs.Inner.Ratios.{InScale}

-- a weight of 0 adds nothing
wrapped_same : (f : ℕ → ℕ) (acc : List ℕ) → length acc ≡ 64 → ((t : ℕ) → t < 64 → get_or acc t 0 < 65536) → ((t : ℕ) → f t ≡ 0) → acc ≡ wrapped f acc
unfolding wrapped
wrapped_same f acc long low none =
    sym (lanewise_same _ acc (λ t inside. rw (none t, add-zero) (mod-eq_of_lt (low t (omega (arith, long))))))

length_wrapped : (f : ℕ → ℕ) (acc : List ℕ) → length (wrapped f acc) ≡ length acc
unfolding wrapped
length_wrapped f acc = length_lanewise _ acc

get_or_wrapped : (f : ℕ → ℕ) (acc : List ℕ) (t : ℕ) → t < length acc → get_or (wrapped f acc) t 0 ≡ (get_or acc t 0 + f t) % 65536
unfolding wrapped
get_or_wrapped f acc t inside = get_or_lanewise (λ t y. (y + f t) % 65536) acc t inside

-- a sum modulo p by its parts
pub total_parts : (p a r : ℕ) → (a % p * (256 % p) + r % p) % p ≡ (a * 256 + r) % p
total_parts p a r =
    add-mod-mod (a % p * (256 % p)) r p
    ∙ sym (mod-add-mod (a % p * (256 % p)) p r)
    ∙ ap (λ (n : ℕ). (n + r) % p) (mod_mul_mod a (256 % p) p ∙ ap (λ (n : ℕ). n % p) (mul_comm a (256 % p)) ∙ mod_mul_mod 256 a p ∙ ap (λ (n : ℕ). n % p) (mul_comm 256 a))
    ∙ mod-add-mod (a * 256) p r

module _ (p rows : ℕ) (ws s : List ℕ) where
  -- lane t of the sum over the rows from i on
  abbrev rest_at : ℕ → ℕ → ℕ
  rest_at i t = dot p (drop i (lane_of row_after_row rows 64 t s)) (drop i ws)

  -- lane t of the sums over the rows below i: with the rows from i on it makes the whole
  pub record Lane (i a b t : ℕ) : Type 0 where
    pub sum : ℕ
    pub half : Half i a b sum
    pub whole : (sum + rest_at i t) % p ≡ dot p (lane_of row_after_row rows 64 t s) ws

  pub record Held (i : ℕ) (low up : List ℕ) : Type 0 where
    pub long : length low ≡ 64
    pub long_up : length up ≡ 64
    pub lanes : (t : ℕ) → t < 64 → Lane i (get_or low t 0) (get_or up t 0) t

  module _ (some : 0 < p) where
    dot_cons : (y w : ℕ) (ys vs : List ℕ) → dot p (y ∷ ys) (w ∷ vs) ≡ (y * w % p + dot p ys vs) % p
    unfolding dot
    dot_cons y w ys vs = add_modulo p some (mul p y w) (dot p ys vs) ∙ ap (λ (n : ℕ). (n + dot p ys vs) % p) (mul_modulo p some y w)

    dot_reduced : (ys vs : List ℕ) → dot p ys vs % p ≡ dot p ys vs
    unfolding dot
    dot_reduced [] vs = zero-mod p
    dot_reduced (y ∷ ys) [] = zero-mod p
    dot_reduced (y ∷ ys) (w ∷ vs) =
        ap (λ (n : ℕ). n % p) (dot_cons y w ys vs) ∙ mod-mod (y * w % p + dot p ys vs) p ∙ sym (dot_cons y w ys vs)

    pub held_none : Held 0 (zeros 64) (zeros 64)
    held_none =
        record {
          long = length_zeros 64;
          long_up = length_zeros 64;
          lanes = λ t lane.
              rw (get_or_zeros 64 t)
              record {
                sum = 0;
                half = record { rest = omega arith; under = omega arith; near = omega arith; small = omega arith };
                whole = rw zero-add (dot_reduced (lane_of row_after_row rows 64 t s) ws);
              };
        }

    one_more : (a r y w : ℕ) → (a + (y * w % p + r) % p) % p ≡ (a + y * w + r) % p
    one_more a r y w =
        add-mod-mod a (y * w % p + r) p
        ∙ sym (add-mod-mod a (y * w % p + r) p)
        ∙ ap (λ (k : ℕ). (a + k) % p) (mod-add-mod (y * w) p r)
        ∙ add-mod-mod a (y * w + r) p
        ∙ ap (λ (k : ℕ). k % p) (sym (add_assoc a (y * w) r))

    module _ (a : InScale p rows ws) (long : rows * 64 ≤ length s) (bytes : all_below 256 s ≡ true) (hp : p ≤ 256) (i : ℕ) (row : i < rows) where
      abbrev part : List ℕ
      part = take (i * 64 + 64 - i * 64) (drop (i * 64) s)

      abbrev w : ℕ
      w = get_or ws i 0

      pub weight_below : w < p
      weight_below = a.below i row

      symbol_at_lem : (t : ℕ) → t < 64 → get_or part t 0 ≡ get_or (lane_of row_after_row rows 64 t s) i 0
      symbol_at_lem t lane = get_d_part (i * 64) 64 s t lane ∙ sym (get_or_lane row_after_row rows 64 t s i row ∙ held_by_row rows 64 s i t)

      symbol_byte : (t : ℕ) → t < 64 → get_or part t 0 < 256
      symbol_byte t lane = rw (get_d_part (i * 64) 64 s t lane) (below_at 256 s bytes (i * 64 + t) (omega (arith, row_inside rows i 64 row)))

      rest_next : (t : ℕ) → t < 64 → rest_at i t ≡ (get_or part t 0 * w % p + rest_at (i + 1) t) % p
      rest_next t lane =
          ap₂ (dot p) (drop_next (lane_of row_after_row rows 64 t s) i 0 (omega (arith, length_lane row_after_row rows 64 t s))) (drop_next ws i 0 (omega (arith, a.long)))
          ∙ dot_cons (get_or (lane_of row_after_row rows 64 t s) i 0) w (drop (i + 1) (lane_of row_after_row rows 64 t s)) (drop (i + 1) ws)
          ∙ ap (λ (x : ℕ). (x * w % p + rest_at (i + 1) t) % p) (sym (symbol_at_lem t lane))

      product_fits : (t : ℕ) → t < 64 → get_or part t 0 * w < 65536
      product_fits t lane = byte_product (get_or part t 0) w (symbol_byte t lane) (omega (arith, weight_below))

      pub held_row : (low up : List ℕ) → Held i low up → Held (i + 1) (wrapped (λ t. get_or part t 0 * w) low) (wrapped (λ t. get_or part t 0 * w / 256) up)
      held_row low up h =
          record {
            long = length_wrapped _ low ∙ h.long;
            long_up = length_wrapped _ up ∙ h.long_up;
            lanes = λ t lane.
                let now = h.lanes t lane in
                let x : ℕ = get_or part t 0 * w in
                rw (get_or_wrapped (λ t. get_or part t 0 * w) low t (omega (arith, h.long)), get_or_wrapped (λ t. get_or part t 0 * w / 256) up t (omega (arith, h.long_up)))
                record {
                  sum = now.sum + x;
                  half = half_more i (get_or low t 0) (get_or up t 0) now.sum x (omega (arith, a.few)) (product_fits t lane) now.half;
                  whole =
                      sym (one_more now.sum (rest_at (i + 1) t) (get_or part t 0) w)
                      ∙ ap (λ (n : ℕ). (now.sum + n) % p) (sym (rest_next t lane))
                      ∙ now.whole;
                };
          }

      -- a row whose weight is 0 adds nothing: both sums fit 16 binary digits
      pub held_zero : (low up : List ℕ) → w ≡ 0 → Held i low up → Held (i + 1) low up
      held_zero low up none h =
          let few : i ≤ 255 = omega (arith, a.few) in
          let same_low = wrapped_same (λ t. get_or part t 0 * w) low h.long (λ t lane. omega (arith, (h.lanes t lane).half.rest)) (λ t. rw none (mul-zero (get_or part t 0))) in
          let same_up = wrapped_same (λ t. get_or part t 0 * w / 256) up h.long_up (λ t lane. omega (arith, (h.lanes t lane).half.small)) (λ t. rw (none, mul-zero) (zero-div 256)) in
          rw (same_low, same_up) (held_row low up h)

    pub held_all : (i : ℕ) (low up : List ℕ) → i ≡ rows → i ≤ 255 → Held i low up → from (λ t. total_of (get_or low t 0) (get_or up t 0) % p) 0 64 ≡ combined row_after_row p rows 64 ws s
    unfolding combined dot
    held_all i low up end few h =
        from_ext _ _ 0 64
        (λ t least most.
        let lane : t < 64 = omega arith in
        let now = h.lanes t lane in
        ap (λ (n : ℕ). n % p) (half_total i (get_or low t 0) (get_or up t 0) now.sum few now.half)
        ∙ rw (drop_of_length-le (lane_of row_after_row rows 64 t s) {i = i} (omega (arith, length_lane row_after_row rows 64 t s)), add-zero) at now.whole)
