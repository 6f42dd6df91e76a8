-- The lanes of a block as bytes and as symbols.
use mathlib.Core.Path.{◌≡◌, sym, ap, ◌∙◌}
use mathlib.Core.Bool.{true}
use mathlib.Core.List.{List}
use mathlib.Core.Logic.{by_cases}
use Prim.Native.Nat.{ℕ, ◌+◌, ◌-◌, ◌*◌, ◌/◌, ◌≤◌, ◌<◌}
use native.Mathlib.Decide.{ℕ_discrete}
use native.Mathlib.Nat.{add-mul, mul_comm, mul_assoc, mul-le-mul, mul-le-mul_right, le_refl}
use native.Mathlib.Omega.{arith}
use lib.ListN.{length, get_or, take, drop}
use Rattle.lists.specs.Numbers.{all_below}
use Rattle.lists.specs.Rows.{from}
use Rattle.lists.proofs.Images.{from_self}
use Rattle.lists.proofs.Rows.{from_ext, row_inside, get_d_part}
use Rattle.layout.specs.Layout.{row_after_row, lane_after_lane, lane_of}
use Rattle.layout.specs.Width.{symbols_of, symbol_bytes, bytes_of}
use Rattle.layout.proofs.Buffers.{length_lane, get_or_lane}
use Rattle.layout.proofs.LaneParts.{lanes_long, lane_part}
use Rattle.layout.proofs.Places.{held_by_row, held_by_lane}
use Rattle.layout.proofs.Readings.{bytes_symbols, get_or_bytes}
use Rattle.layout.proofs.Runs as runs
use Rattle.layout.proofs.Tiles.{many_symbols}
use Rattle.layout.proofs.Widths.{length_symbols}
use Rattle.tiles.specs.Inner.Tiles.{TileOf}
use Rattle.field.specs.Inner.Sums.{dot}
use Rattle.field.specs.Widths.{bytes_for}
use Rattle.tile_products.specs.Inner.Products.{groups_of}
use Rattle.tile_products.specs.Inner.Matrices.{lane_product}
use Rattle.tile_products.proofs.Fitting.{groups_few}
use Rattle.tile_products.proofs.Lanes.{lane_prefix}
use Rattle.block_products.specs.Inner.Ways.{Room}

-- lane t from what its places hold
pub lane_is : (n l t : ℕ) (s xs : List ℕ) → length xs ≡ n → ((r : ℕ) → r < n → get_or s (t * n + r) 0 ≡ get_or xs r 0) → lane_of lane_after_lane n l t s ≡ xs
unfolding lane_of
lane_is n l t s xs long same = from_ext _ (λ r. get_or xs r 0) 0 n (λ r low high. held_by_lane n l s r t ∙ same r (omega arith)) ∙ from_self xs n long

-- lane q of the part from lane t on
pub lane_of_part : (rows l : ℕ) (s : List ℕ) → length s ≡ rows * l → (t c q : ℕ) → q < c → lane_of lane_after_lane rows c q (take (t * rows + c * rows - t * rows) (drop (t * rows) s)) ≡ lane_of lane_after_lane rows l (t + q) s
unfolding lane_of
lane_of_part rows l s long t c q inside = from_ext _ _ 0 rows (λ i low high. runs.held_part rows l s long t c i q (omega arith) inside)

module _ (w rows l : ℕ) (s : List ℕ) (some : 1 ≤ w) (long : length s ≡ w * rows * l) where
  -- byte v of row r in lane t
  pub row_byte : all_below 256 s ≡ true → (r t v : ℕ) → r < rows → t < l → v < w → get_or (bytes_of w (lane_of row_after_row rows l t (symbols_of w s))) (r * w + v) 0 ≡ get_or s ((r * l + t) * w + v) 0
  row_byte low r t v row lane byte =
      let symbols = symbols_of w s in
      let count : length symbols ≡ rows * l = length_symbols w s ∙ many_symbols w rows l s some long in
      let inside : r * l + t < length symbols = rw count (omega (arith, row_inside rows r l row)) in
      get_or_bytes w (lane_of row_after_row rows l t symbols) r v (rw (length_lane row_after_row rows l t symbols) row) byte
      ∙ ap (λ (x : ℕ). get_or (symbol_bytes w x) v 0) (get_or_lane row_after_row rows l t symbols r row ∙ held_by_row rows l symbols r t)
      ∙ sym (get_or_bytes w symbols (r * l + t) v inside byte)
      ∙ ap (λ (u : List ℕ). get_or u ((r * l + t) * w + v) 0) (bytes_symbols w (rows * l) s some (long ∙ sym (lanes_long w rows l)) low)

  -- the symbols of a lane's bytes
  pub lane_read : (t : ℕ) → t < l → symbols_of w (lane_of lane_after_lane (w * rows) l t s) ≡ lane_of lane_after_lane rows l t (symbols_of w s)
  lane_read t lane = ap (symbols_of w) (sym (runs.lane_part (w * rows) l s long t lane)) ∙ lane_part w rows l t s long lane some

  -- the part of row r that is loaded lies in the buffer
  pub row_part : (r t c : ℕ) → r < rows → t + c ≤ l → (r * l + t) * w + c * w ≤ length s
  row_part r t c row fits =
      let inside : r * l + t + c ≤ rows * l = omega (arith, row_inside rows r l row) in
      let all : rows * l * w ≡ length s = lanes_long w rows l ∙ sym long in
      omega (arith, mul-le-mul_right w inside, add-mul (r * l + t) c w, all)

  -- what a loaded row holds
  pub row_loaded : all_below 256 s ≡ true → (r t c : ℕ) → r < rows → t + c ≤ l → c ≤ 64 → (xs : List ℕ) → TileOf w w c (λ v q. get_or (take ((r * l + t) * w + c * w - (r * l + t) * w) (drop ((r * l + t) * w) s)) (q * w + v) 0) xs → (v q : ℕ) → v < w → r * w + v < w * rows → q < c → (v * 64 + q < w * 64) × (get_or xs (v * 64 + q) 0 ≡ get_or (bytes_of w (lane_of row_after_row rows l (t + q) (symbols_of w s))) (r * w + v) 0)
  row_loaded low r t c row fits few xs o v q byte inside lane =
      let a = (r * l + t) * w in
      let within : q * w + v < c * w = omega (arith, row_inside c q w lane) in
      let place : a + (q * w + v) ≡ (r * l + (t + q)) * w + v = place_of in
      (omega (arith, row_inside w v 64 byte), o.holds v q byte byte lane ∙ get_d_part a (c * w) s (q * w + v) within ∙ ap (λ (x : ℕ). get_or s x 0) place ∙ sym (row_byte low r (t + q) v row (omega arith) byte))
    where
      place_of : (r * l + t) * w + (q * w + v) ≡ (r * l + (t + q)) * w + v
      place_of =
          let e : r * l + (t + q) ≡ r * l + t + q = omega arith in
          rw e (omega (arith, add-mul (r * l + t) q w))

-- the sums of a lane, from the product of a tile's first rows
pub product_lane : (p w outputs rows size q : ℕ) (ws : ℕ → List ℕ) (tile words symbols : List ℕ) → w ≡ bytes_for p → w * rows * 64 ≤ size → q < 64 → symbols_of w (lane_of row_after_row (w * rows) 64 q tile) ≡ symbols → lane_of row_after_row (bytes_for p * outputs) 64 q words ≡ lane_product p outputs ws (lane_of row_after_row (bytes_for p * rows) 64 q (take size tile)) → lane_of row_after_row (w * outputs) 64 q words ≡ bytes_of w (from (λ i. dot p symbols (ws i)) 0 outputs)
unfolding lane_product
product_lane p w outputs rows size q ws tile words symbols wide fits lane is made =
    let b = bytes_for p in
    let inside : b * rows * 64 ≤ size = rw wide at fits in
    let same : symbols_of b (lane_of row_after_row (b * rows) 64 q (take size tile)) ≡ symbols = ap (symbols_of b) (lane_prefix (b * rows) size q tile inside lane) ∙ rw wide at is in
    rw wide (made ∙ ap (λ (ys : List ℕ). bytes_of b (from (λ i. dot p ys (ws i)) 0 outputs)) same)

-- scratch for so many groups of rows, and so many blocks of 16 rows of bytes
pub room_for : (w outputs rows groups blocks : ℕ) → 1 ≤ w → rows ≤ 4 * groups → w * outputs ≤ 16 * blocks → w * rows ≤ 16 * blocks → blocks ≤ groups → Room w outputs rows (blocks * 1024) (groups * 1024) (blocks * 1024)
room_for w outputs rows groups blocks some grouped a b less =
    record { lanes = omega arith; sums = omega (arith, groups_few rows groups grouped); blocks = omega arith; products = omega arith }

-- and that of a product whose rows of bytes fill so many blocks of 16
pub few_room : (w outputs rows blocks : ℕ) → 1 ≤ w → w * outputs ≤ 16 * blocks → w * rows ≤ 16 * blocks → Room w outputs rows (blocks * 1024) (4 * blocks * 1024) (blocks * 1024)
few_room w outputs rows blocks some a b =
    let fewer : rows ≤ 4 * (4 * blocks) = omega (arith, mul-le-mul some (le_refl rows)) in
    room_for w outputs rows (4 * blocks) blocks some fewer a b (omega arith)

-- the groups of four rows lie in a tile that is filled 16 rows of bytes at a time
pub groups_inside : (w rows : ℕ) → 1 ≤ w → w ≤ 2 → groups_of rows * (w * 256) ≤ (w * rows + 15) / 16 * 1024
unfolding groups_of
groups_inside w rows some few =
    by_cases (ℕ_discrete w 1) (λ e. rw e (omega arith)) (λ n. let e : w ≡ 2 = omega arith in rw e (omega arith))

-- and the rows in the groups
pub rows_grouped : (w rows : ℕ) → w * rows * 64 ≤ groups_of rows * (w * 256)
unfolding groups_of
rows_grouped w rows =
    let few : rows ≤ (rows + 3) / 4 * 4 = omega arith in
    let e : (rows + 3) / 4 * (w * 256) ≡ w * ((rows + 3) / 4 * 4) * 64 = regroup ((rows + 3) / 4) in
    rw e (mul-le-mul (mul-le-mul (le_refl w) few) (le_refl 64))
  where
    regroup : (g : ℕ) → g * (w * 256) ≡ w * (g * 4) * 64
    regroup g = omega (arith, mul_comm g (w * 256), mul_assoc w 256 g, mul_comm 256 g, mul_assoc w (g * 4) 64, mul_comm w (g * 256))

pub rows_inside : (w rows : ℕ) → w * rows * 64 ≤ (w * rows + 15) / 16 * 1024
rows_inside w rows = omega arith
