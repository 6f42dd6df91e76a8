-- Lanes that stand side by side: one lane, or several, as a part of a buffer that stands lane after lane; and some lanes of a buffer as a buffer of their own.
use mathlib.Core.Path.{◌≡◌, sym, ap, ◌∙◌}
use mathlib.Core.Bool.{true}
use mathlib.Core.List.{List, ◌++◌}
use mathlib.Core.Logic.{by_cases}
use Prim.Native.Nat.{ℕ, ◌+◌, ◌-◌, ◌*◌, ◌/◌, ◌%◌, ◌≤◌, ◌<◌}
use native.Mathlib.Decide.{ℕ_discrete, dec_lt}
use native.Mathlib.Nat.{zero-add, zero-mul, add-mul, mul_comm, mul-le-mul, le_refl}
use native.Mathlib.Omega.{arith}
use lib.ListN.{length, get_or, take, drop, length-append, length-drop, get_or-append}
use lib.Seq.{ext_get_or, length-take-le, get_or-take, get_or-drop, get_or-append-add}
use Rattle.lists.specs.Rows.{from}
use Rattle.lists.specs.Numbers.{all_below}
use Rattle.lists.proofs.Rows.{length_from, get_or_from, row_inside, part_length, get_d_part}
use Rattle.layout.specs.Layout.{Arrangement, row_after_row, lane_after_lane, held, lane_of, buffer, rearranged, with_lane}
use Rattle.layout.specs.Inner.Parts.{some_lanes}
use Rattle.layout.proofs.Lawful.{Lawful, by_lane}
use Rattle.layout.proofs.Buffers.{length_lane, get_or_lane, length_buffer, lane_buffer, buffer_ext, held_equal, held_below, buffer_below}
use Rattle.layout.proofs.OneLane.{length_with_lane, held_changed, held_kept}
use Rattle.layout.proofs.Places.{held_by_row, held_by_lane}

module _ (rows l : ℕ) (s : List ℕ) (long : length s ≡ rows * l) where
  -- c lanes from lane t on lie within the buffer
  pub lanes_inside : (t c : ℕ) → t + c ≤ l → t * rows + c * rows ≤ length s
  lanes_inside t c fits = rw (long, ← add-mul t c rows, mul_comm rows l) (mul-le-mul fits (le_refl rows))

  -- a lane is the part from its start to the next lane's
  pub lane_part : (t : ℕ) → t < l → take (t * rows + rows - t * rows) (drop (t * rows) s) ≡ lane_of lane_after_lane rows l t s
  lane_part t inside =
      let fits : t * rows + rows ≤ length s = rw (long, mul_comm rows l) (row_inside l t rows inside) in
      ext_get_or 0 _ (lane_of lane_after_lane rows l t s) (part_length (t * rows) rows s fits ∙ sym (length_lane lane_after_lane rows l t s))
      (λ i h.
      let row : i < rows = omega (arith, part_length (t * rows) rows s fits) in
      get_d_part (t * rows) rows s i row ∙ sym (get_or_lane lane_after_lane rows l t s i row ∙ held_by_lane rows l s i t))

  -- so are c lanes: as a buffer of c lanes the part holds what they hold
  pub held_part : (t c i q : ℕ) → i < rows → q < c → held lane_after_lane rows c (take (t * rows + c * rows - t * rows) (drop (t * rows) s)) i q ≡ held lane_after_lane rows l s i (t + q)
  held_part t c i q row inside =
      let low : q * rows + i < c * rows = omega (arith, row_inside c q rows inside) in
      let place : t * rows + (q * rows + i) ≡ (t + q) * rows + i = omega (arith, add-mul t q rows) in
      held_by_lane rows c _ i q ∙ get_d_part (t * rows) (c * rows) s (q * rows + i) low ∙ rw (place, ← held_by_lane rows l s i (t + q))

  -- rearranged it is those lanes
  pub rearranged_part : {z : Arrangement} → Lawful z → (t c : ℕ) → rearranged lane_after_lane z rows c (take (t * rows + c * rows - t * rows) (drop (t * rows) s)) ≡ some_lanes lane_after_lane z rows l t c s
  unfolding rearranged some_lanes
  rearranged_part b t c = buffer_ext b rows c _ _ (λ i q row inside. held_part t c i q row inside)

-- rows of a tile are the lanes of it turned: one transposition gathers and scatters
pub turned : (rows l : ℕ) (s : List ℕ) → rearranged row_after_row lane_after_lane l rows s ≡ rearranged lane_after_lane row_after_row rows l s
unfolding rearranged buffer held row_after_row lane_after_lane
turned rows l s = ap (λ (m : ℕ). from (λ x. get_or s (x % l * rows + x / l) 0) 0 m) (mul_comm l rows)

-- one lane stands the same in both
pub one_lane : (rows : ℕ) (s : List ℕ) (i : ℕ) → held row_after_row rows 1 s i 0 ≡ held lane_after_lane rows 1 s i 0
one_lane rows s i =
    let place : i * 1 + 0 ≡ 0 * rows + i = omega (arith, zero-mul rows) in
    held_by_row rows 1 s i 0 ∙ ap (λ (p : ℕ). get_or s p 0) place ∙ sym (held_by_lane rows 1 s i 0)

module _ {y z : Arrangement} (a : Lawful y) (b : Lawful z) (rows l t c : ℕ) (s : List ℕ) where
  pub length_some : length (some_lanes y z rows l t c s) ≡ rows * c
  unfolding some_lanes
  length_some = length_buffer z rows c (λ i q. held y rows l s i (t + q))

  -- lane q of some lanes from t on is lane t + q
  pub lane_some : (q : ℕ) → q < c → lane_of z rows c q (some_lanes y z rows l t c s) ≡ lane_of y rows l (t + q) s
  unfolding some_lanes lane_of
  lane_some q inside = lane_buffer b rows c (λ i q. held y rows l s i (t + q)) q inside

  -- lanes of symbols
  pub some_below : (m : ℕ) → t + c ≤ l → length s ≡ rows * l → all_below m s ≡ true → all_below m (some_lanes y z rows l t c s) ≡ true
  unfolding some_lanes
  some_below m fits long low = buffer_below b rows c m _ (λ i q row inside. held_below a rows l m s long low i (t + q) row (omega arith))

-- a list of which k places from a on were replaced
module _ (s xs : List ℕ) (a k : ℕ) (size : length xs ≡ k) (fits : a + k ≤ length s) where
  -- as code leaves it
  abbrev pub replaced : List ℕ
  replaced = take a s ++ (xs ++ drop k (drop a s))

  front : length (take a s) ≡ a
  front = length-take-le a s (omega arith)

  pub length_replaced : length replaced ≡ length s
  length_replaced = simp (length-append, length-drop) (omega (arith, front))

  -- a place before them
  pub replaced_before : (x : ℕ) → x < a → get_or replaced x 0 ≡ get_or s x 0
  replaced_before x low = get_or-append (take a s) _ 0 x (omega (arith, front)) ∙ get_or-take a s x 0 low

  -- one of them
  pub replaced_inside : (i : ℕ) → i < k → get_or replaced (a + i) 0 ≡ get_or xs i 0
  replaced_inside i low =
      let place : a + i ≡ length (take a s) + i = omega (arith, front) in
      rw (place, get_or-append-add (take a s) (xs ++ drop k (drop a s)) i 0) (get_or-append xs _ 0 i (omega arith))

  -- a place after them
  pub replaced_after : (i : ℕ) → get_or replaced (a + (k + i)) 0 ≡ get_or s (a + (k + i)) 0
  replaced_after i =
      let place : a + (k + i) ≡ length (take a s) + (length xs + i) = omega (arith, front) in
      ap (λ (x : ℕ). get_or replaced x 0) place
      ∙ get_or-append-add (take a s) (xs ++ drop k (drop a s)) (length xs + i) 0
      ∙ get_or-append-add xs (drop k (drop a s)) i 0
      ∙ get_or-drop k (drop a s) i 0
      ∙ get_or-drop a s (k + i) 0

-- a lane that was replaced through its part is a lane changed
pub with_lane_part : (rows l t : ℕ) (g : ℕ → ℕ) (s : List ℕ) → length s ≡ rows * l → t < l → take (t * rows) s ++ (from g 0 rows ++ drop rows (drop (t * rows) s)) ≡ with_lane lane_after_lane rows l t g s
with_lane_part rows l t g s long inside =
    held_equal by_lane rows l _ (with_lane lane_after_lane rows l t g s) (length_replaced s (from g 0 rows) a rows size fits ∙ long) (length_with_lane by_lane rows l t g s)
    (λ i q row lane. by_cases (ℕ_discrete q t) (λ e. same i q row e) (λ n. by_cases (dec_lt q t) (λ low. before i q row lane n low) (λ high. after i q row lane n high)))
  where
    a : ℕ
    a = t * rows

    size : length (from g 0 rows) ≡ rows
    size = length_from g 0 rows

    fits : a + rows ≤ length s
    fits = rw (long, mul_comm rows l) (row_inside l t rows inside)

    now : List ℕ
    now = replaced s (from g 0 rows) a rows size fits

    same : (i q : ℕ) → i < rows → q ≡ t → held lane_after_lane rows l now i q ≡ held lane_after_lane rows l (with_lane lane_after_lane rows l t g s) i q
    same i q row e =
        rw e
        (held_by_lane rows l now i t
        ∙ replaced_inside s (from g 0 rows) a rows size fits i row
        ∙ rw zero-add at (get_or_from g 0 rows i 0 row)
        ∙ sym (held_changed by_lane rows l t g s i row inside))

    before : (i q : ℕ) → i < rows → q < l → (q ≡ t → ⊥) → q < t → held lane_after_lane rows l now i q ≡ held lane_after_lane rows l (with_lane lane_after_lane rows l t g s) i q
    before i q row lane n low =
        held_by_lane rows l now i q
        ∙ replaced_before s (from g 0 rows) a rows size fits (q * rows + i) (omega (arith, row_inside t q rows low))
        ∙ sym (held_by_lane rows l s i q)
        ∙ sym (held_kept by_lane rows l t g s i q row lane n)

    after : (i q : ℕ) → i < rows → q < l → (q ≡ t → ⊥) → (q < t → ⊥) → held lane_after_lane rows l now i q ≡ held lane_after_lane rows l (with_lane lane_after_lane rows l t g s) i q
    after i q row lane n high =
        let higher : t < q = omega arith in
        let x : ℕ = q * rows + i - (a + rows) in
        let place : q * rows + i ≡ a + (rows + x) = omega (arith, row_inside q t rows higher) in
        held_by_lane rows l now i q
        ∙ ap (λ (p : ℕ). get_or now p 0) place
        ∙ replaced_after s (from g 0 rows) a rows size fits x
        ∙ ap (λ (p : ℕ). get_or s p 0) (sym place)
        ∙ sym (held_by_lane rows l s i q)
        ∙ sym (held_kept by_lane rows l t g s i q row lane n)
