-- Rows as tiles: two rows one after the other, their lanes, and the sums over them.
use mathlib.Core.Path.{◌≡◌, refl, sym, ap, ap₂, ◌∙◌}
use mathlib.Core.Bool.{true}
use mathlib.Core.List.{List, [], ◌∷◌, ◌++◌, append-nil}
use Prim.Native.Nat.{ℕ, zero, suc, ◌+◌, ◌*◌, ◌≤◌, ◌<◌}
use native.Mathlib.Nat.{zero-add, one-mul, mul-one, zero-mul, mul_comm, mul_assoc, mul-le-mul}
use native.Mathlib.Omega.{arith}
use lib.ListN.{length, get_or, length-append, get_or-append}
use lib.Seq.{get_or-append-add}
use Rattle.lists.specs.Numbers.{all_below}
use Rattle.lists.specs.Rows.{from, rows_from}
use Rattle.lists.proofs.Numbers.{below_at, at_below, below_append, cons_below}
use Rattle.lists.proofs.Rows.{from_ext, length_from, get_or_from, rows_ext}
use Rattle.layout.specs.Layout.{row_after_row, held, lane_of, buffer}
use Rattle.layout.specs.Inner.Tiles.{tile_symbols}
use Rattle.layout.specs.Width.{symbols_of, bytes_of}
use Rattle.layout.proofs.LaneParts.{bytes_rows, lanes_long}
use Rattle.layout.proofs.Places.{held_by_row, buffer_by_row}
use Rattle.layout.proofs.Widths.{length_bytes, symbols_bytes}
use Rattle.layout.proofs.Tiles.{length_rearranged_rows, length_tile_symbols, row_symbols, rows_tile}
use Rattle.field.specs.Fields.{sub, mul}
use Rattle.field.specs.Inner.Sums.{dot}
use Rattle.field.proofs.BothKinds.{arithmetic}
use Rattle.generator.specs.declared.Header.{Header}
use Rattle.generator.specs.Records.{modulus_of, size, width, Sound}
use Rattle.generator.specs.Generator.{entry}
use Rattle.generator.proofs.Widths.{width_some, width_range}
use Rattle.refusals.specs.Accepted.{SymbolBuffer}
use Rattle.refusals.specs.Inner.Accepted.{SymbolBytes, SymbolTile}
use Rattle.row_sums.specs.Inner.Combined.{combined, combined_bytes, WeightedRows}
use Rattle.row_sums.proofs.Columns.{combined_symbols}
use Rattle.differences.specs.Differences.{difference_at, added_symbols}
use Rattle.differences.specs.Inner.Rows.{row_tile, pair_tile, row_less, row_times}
use Rattle.differences.proofs.Sums.{dot_one, dot_sum, dot_less}

-- the symbols of the tiles of two rows
module _ (w l : ℕ) (a b : List ℕ) where
  tiles : ℕ → List ℕ
  tiles zero = row_tile w l a
  tiles (suc i) = row_tile w l b

  tiles_long : (i : ℕ) → length (tiles i) ≡ w * l
  unfolding tiles
  tiles_long zero = length_rearranged_rows w l a
  tiles_long (suc i) = length_rearranged_rows w l b

  pub length_pair : length (pair_tile w l a b) ≡ 2 * (w * l)
  length_pair = length-append (row_tile w l a) (row_tile w l b) ∙ omega (arith, length_rearranged_rows w l a, length_rearranged_rows w l b)

  pub pair_symbols : 0 < w → length a ≡ w * l → length b ≡ w * l → tile_symbols w 2 l (pair_tile w l a b) ≡ symbols_of w a ++ symbols_of w b
  unfolding rows_from tiles
  pair_symbols some first second =
      ap (λ (x : List ℕ). tile_symbols w 2 l (row_tile w l a ++ x)) (sym (append-nil (row_tile w l b)))
      ∙ rows_tile w 2 l some tiles tiles_long
      ∙ ap₂ (λ (x y : List ℕ). x ++ (y ++ [])) (row_symbols w l a some first) (row_symbols w l b some second)
      ∙ ap (λ (x : List ℕ). symbols_of w a ++ x) (append-nil (symbols_of w b))

-- lane t of one row and of two
module _ (l : ℕ) (xs : List ℕ) where
  first_held : (rows t : ℕ) → held row_after_row rows l xs 0 t ≡ get_or xs t 0
  first_held rows t = let place : 0 * l + t ≡ t = omega (arith, zero-mul l) in held_by_row rows l xs 0 t ∙ ap (λ (x : ℕ). get_or xs x 0) place

  one_lane : (t : ℕ) → lane_of row_after_row 1 l t xs ≡ get_or xs t 0 ∷ []
  unfolding lane_of from
  one_lane t = ap (λ (x : ℕ). x ∷ []) (first_held 1 t)

two_lane : (l : ℕ) (xs ys : List ℕ) → length xs ≡ l → (t : ℕ) → t < l → lane_of row_after_row 2 l t (xs ++ ys) ≡ get_or xs t 0 ∷ get_or ys t 0 ∷ []
unfolding lane_of from
two_lane l xs ys long t inside =
    let first : held row_after_row 2 l (xs ++ ys) 0 t ≡ get_or xs t 0 = first_held l (xs ++ ys) 2 t ∙ get_or-append xs ys 0 t (omega arith) in
    let place : 1 * l + t ≡ length xs + t = omega (arith, one-mul l) in
    let second : held row_after_row 2 l (xs ++ ys) 1 t ≡ get_or ys t 0 = held_by_row 2 l (xs ++ ys) 1 t ∙ ap (λ (x : ℕ). get_or (xs ++ ys) x 0) place ∙ get_or-append-add xs ys t 0 in
    ap₂ (λ (x y : ℕ). x ∷ y ∷ []) first second

-- a row less another: its length and its symbols
length_less : (h : Header) (l : ℕ) (xs ys : List ℕ) → length (row_less h l xs ys) ≡ l
unfolding row_less
length_less h l xs ys = length_from (λ t. sub (modulus_of h) (get_or xs t 0) (get_or ys t 0)) 0 l

pub length_less_bytes : (h : Header) (w l : ℕ) (xs ys : List ℕ) → length (bytes_of w (row_less h l xs ys)) ≡ w * l
length_less_bytes h w l xs ys = length_bytes w (row_less h l xs ys) ∙ ap (λ (x : ℕ). x * w) (length_less h l xs ys) ∙ mul_comm l w

less_at : (h : Header) (l : ℕ) (xs ys : List ℕ) (t : ℕ) → t < l → get_or (row_less h l xs ys) t 0 ≡ sub (modulus_of h) (get_or xs t 0) (get_or ys t 0)
unfolding row_less
less_at h l xs ys t lane = rw zero-add at (get_or_from (λ t. sub (modulus_of h) (get_or xs t 0) (get_or ys t 0)) 0 l t 0 lane)

module _ (h : Header) (sound : Sound h) (l : ℕ) (xs : List ℕ) (long : length xs ≡ l) (low : all_below (size h) xs ≡ true) where
  -- a row times a weight
  pub times_sums : (c : ℕ) → c < size h → combined row_after_row (modulus_of h) 1 l (c ∷ []) xs ≡ row_times h l xs c
  unfolding combined row_times
  times_sums c hc =
      from_ext _ _ 0 l
      (λ t above below.
      ap (λ (w : List ℕ). dot (modulus_of h) w (c ∷ [])) (one_lane l xs t)
      ∙ dot_one (modulus_of h) sound.field (get_or xs t 0) c (below_at (size h) xs low t (omega arith)) hc)

  module _ (ys : List ℕ) (as_long : length ys ≡ l) (below : all_below (size h) ys ≡ true) where
    -- two rows added, and the first less the second
    pub sum_sums : combined row_after_row (modulus_of h) 2 l (1 ∷ 1 ∷ []) (xs ++ ys) ≡ added_symbols h l ys xs
    unfolding combined added_symbols
    sum_sums =
        from_ext _ _ 0 l
        (λ t least most.
        ap (λ (w : List ℕ). dot (modulus_of h) w (1 ∷ 1 ∷ [])) (two_lane l xs ys long t (omega arith))
        ∙ dot_sum (modulus_of h) sound.field (get_or xs t 0) (get_or ys t 0) (below_at (size h) xs low t (omega arith)) (below_at (size h) ys below t (omega arith)))

    pub less_sums : combined row_after_row (modulus_of h) 2 l (1 ∷ sub (modulus_of h) 0 1 ∷ []) (xs ++ ys) ≡ row_less h l xs ys
    unfolding combined row_less
    less_sums =
        from_ext _ _ 0 l
        (λ t least most.
        ap (λ (w : List ℕ). dot (modulus_of h) w (1 ∷ sub (modulus_of h) 0 1 ∷ [])) (two_lane l xs ys long t (omega arith))
        ∙ dot_less (modulus_of h) sound.field (get_or xs t 0) (get_or ys t 0) (below_at (size h) xs low t (omega arith)) (below_at (size h) ys below t (omega arith)))

    -- the difference is a row of symbols
    pub less_below : all_below (size h) (row_less h l xs ys) ≡ true
    less_below =
        let laws = arithmetic (modulus_of h) sound.field in
        at_below (size h) _
        (λ t inside.
        let lane : t < l = omega (arith, length_less h l xs ys) in
        rw (less_at h l xs ys t lane)
        (laws.sub_below (get_or xs t 0) (get_or ys t 0) (below_at (size h) xs low t (omega arith)) (below_at (size h) ys below t (omega arith))))

-- a difference times an entry, lane by lane
times_entry : (h : Header) (r : ℕ) (xs ys : List ℕ) (l j : ℕ) → row_times h l (row_less h l xs ys) (entry h r j) ≡ from (difference_at h r ys xs j) 0 l
unfolding row_times difference_at
times_entry h r xs ys l j = from_ext _ _ 0 l (λ t least most. ap (λ (x : ℕ). mul (modulus_of h) x (entry h r j)) (less_at h l xs ys t (omega arith)))

-- a few rows of a tile with a weight each, as the kernel asks for them
pub few_rows : {h : Header} {w rows l : ℕ} {ws s : List ℕ} {out : ℕ} → Sound h → w ≡ width h → rows ≤ 2 → l ≤ 4096 → length ws ≡ rows → all_below (size h) ws ≡ true → length s ≡ w * rows * l → all_below (size h) (tile_symbols w rows l s) ≡ true → out ≡ w * l → WeightedRows h.field rows l ws s out
unfolding width
few_rows {h} {w} {rows} {l} {ws} {s} sound wide few lanes weights below long symbols room =
    let same : all_below (size h) (tile_symbols (width h) rows l s) ≡ true = rw wide at symbols in
    record {
      usable_field = sound.usable_field;
      tile = record {
        few_lanes = lanes;
        bytes = rw wide at long;
        weighted = record { few = omega arith; weights = omega arith; weights_below = below; long = length_tile_symbols (width h) rows l s; symbols = same; out_long = refl };
        out_is_bytes = rw wide at room;
      };
    }

-- rows of symbols as bytes: how many bytes and symbols they have
module _ {h : Header} {w l : ℕ} {s : List ℕ} (a : SymbolBytes h w 1 l s) where
  pub row_bytes_long : length s ≡ w * l
  row_bytes_long = a.bytes ∙ ap (λ (x : ℕ). x * l) (mul-one w)

  pub row_few : length s ≤ 8192
  row_few =
      let two : w ≤ 2 = rw a.wide (width_range h).1 in
      omega (arith, row_bytes_long, mul-le-mul two a.symbol_rows.few_lanes)

  row_count : length (symbols_of w s) ≡ l
  row_count = a.symbol_rows.long ∙ one-mul l

  row_some : 0 < w
  row_some = rw a.wide (width_some h)

-- two rows of symbols as a tile: what the kernel asks, and what it makes of them
module _ {h : Header} {w l : ℕ} {s u : List ℕ} (a : SymbolBytes h w 1 l s) (b : SymbolBytes h w 1 l u) where
  two_symbols : tile_symbols w 2 l (pair_tile w l s u) ≡ symbols_of w s ++ symbols_of w u
  two_symbols = pair_symbols w l s u (row_some a) (row_bytes_long a) (row_bytes_long b)

  pub pair_ready : {ws : List ℕ} {out : ℕ} → length ws ≡ 2 → all_below (size h) ws ≡ true → out ≡ w * l → WeightedRows h.field 2 l ws (pair_tile w l s u) out
  pair_ready many low room =
      let two : 2 * (w * l) ≡ w * 2 * l = sym (ap (λ (x : ℕ). x * l) (mul_comm w 2) ∙ mul_assoc 2 w l) in
      few_rows a.symbol_rows.sound a.wide (omega arith) a.symbol_rows.few_lanes many low (length_pair w l s u ∙ two)
      (rw two_symbols (below_append (size h) (symbols_of w s) (symbols_of w u) a.symbol_rows.symbols b.symbol_rows.symbols)) room

  pub pair_added : combined_bytes (modulus_of h) 2 l (1 ∷ 1 ∷ []) (pair_tile w l s u) ≡ bytes_of w (added_symbols h l (symbols_of w u) (symbols_of w s))
  pair_added =
      combined_symbols h w 2 l (1 ∷ 1 ∷ []) (pair_tile w l s u) a.wide
      ∙ ap (λ (x : List ℕ). bytes_of w (combined row_after_row (modulus_of h) 2 l (1 ∷ 1 ∷ []) x)) two_symbols
      ∙ ap (bytes_of w) (sum_sums h a.symbol_rows.sound l (symbols_of w s) (row_count a) a.symbol_rows.symbols (symbols_of w u) (row_count b) b.symbol_rows.symbols)

  pub pair_less : combined_bytes (modulus_of h) 2 l (1 ∷ sub (modulus_of h) 0 1 ∷ []) (pair_tile w l s u) ≡ bytes_of w (row_less h l (symbols_of w s) (symbols_of w u))
  pair_less =
      combined_symbols h w 2 l (1 ∷ sub (modulus_of h) 0 1 ∷ []) (pair_tile w l s u) a.wide
      ∙ ap (λ (x : List ℕ). bytes_of w (combined row_after_row (modulus_of h) 2 l (1 ∷ sub (modulus_of h) 0 1 ∷ []) x)) two_symbols
      ∙ ap (bytes_of w) (less_sums h a.symbol_rows.sound l (symbols_of w s) (row_count a) a.symbol_rows.symbols (symbols_of w u) (row_count b) b.symbol_rows.symbols)

  -- the difference as a tile of its own
  pub less_tile : SymbolTile h w 1 l (row_tile w l (bytes_of w (row_less h l (symbols_of w s) (symbols_of w u))))
  less_tile =
      let xs = row_less h l (symbols_of w s) (symbols_of w u) in
      let same : tile_symbols w 1 l (row_tile w l (bytes_of w xs)) ≡ xs = row_symbols w l (bytes_of w xs) (row_some a) (length_less_bytes h w l (symbols_of w s) (symbols_of w u)) ∙ symbols_bytes w xs (row_some a) in
      record {
        wide = a.wide;
        bytes = length_rearranged_rows w l (bytes_of w xs) ∙ ap (λ (x : ℕ). x * l) (sym (mul-one w));
        symbol_rows = record {
          sound = a.symbol_rows.sound;
          some_lane = a.symbol_rows.some_lane;
          few_lanes = a.symbol_rows.few_lanes;
          long = length_tile_symbols w 1 l (row_tile w l (bytes_of w xs));
          symbols = rw same (less_below h a.symbol_rows.sound l (symbols_of w s) (row_count a) a.symbol_rows.symbols (symbols_of w u) (row_count b) b.symbol_rows.symbols);
        };
      }

  -- times the entries of a row of the generator it is what each node adds
  pub less_times : (r : ℕ) → rows_from (λ j. bytes_of w (row_times h l (tile_symbols w 1 l (row_tile w l (bytes_of w (row_less h l (symbols_of w s) (symbols_of w u))))) (entry h r j))) 0 h.n ≡ bytes_of w (buffer row_after_row h.n l (difference_at h r (symbols_of w u) (symbols_of w s)))
  less_times r =
      let xs = row_less h l (symbols_of w s) (symbols_of w u) in
      let same : tile_symbols w 1 l (row_tile w l (bytes_of w xs)) ≡ xs = row_symbols w l (bytes_of w xs) (row_some a) (length_less_bytes h w l (symbols_of w s) (symbols_of w u)) ∙ symbols_bytes w xs (row_some a) in
      bytes_rows w (λ j. row_times h l (tile_symbols w 1 l (row_tile w l (bytes_of w xs))) (entry h r j)) 0 h.n
      ∙ ap (λ (v : List ℕ). bytes_of w (rows_from (λ j. row_times h l v (entry h r j)) 0 h.n)) same
      ∙ ap (bytes_of w) (rows_ext _ _ 0 h.n (λ j least most. times_entry h r (symbols_of w s) (symbols_of w u) l j) ∙ sym (buffer_by_row h.n l (difference_at h r (symbols_of w u) (symbols_of w s))))

-- one row of a tile times a weight
module _ {h : Header} {w l : ℕ} {tile : List ℕ} (a : SymbolTile h w 1 l tile) (c : ℕ) (low : c < size h) where
  pub row_ready : {out : ℕ} → out ≡ w * l → WeightedRows h.field 1 l (c ∷ []) tile out
  unfolding all_below
  row_ready room =
      few_rows a.symbol_rows.sound a.wide (omega arith) a.symbol_rows.few_lanes refl (cons_below (size h) c [] low refl) a.bytes a.symbol_rows.symbols room

  pub row_times_lem : combined_bytes (modulus_of h) 1 l (c ∷ []) tile ≡ bytes_of w (row_times h l (tile_symbols w 1 l tile) c)
  row_times_lem =
      combined_symbols h w 1 l (c ∷ []) tile a.wide
      ∙ ap (bytes_of w) (times_sums h a.symbol_rows.sound l (tile_symbols w 1 l tile) (a.symbol_rows.long ∙ one-mul l) a.symbol_rows.symbols c low)

-- weights that are symbols
pub weights_below : (h : Header) → Sound h → (c : ℕ) → c < size h → all_below (size h) (1 ∷ c ∷ []) ≡ true
unfolding all_below
weights_below h sound c low = cons_below (size h) 1 (c ∷ []) (arithmetic (modulus_of h) sound.field).one_below (cons_below (size h) c [] low refl)

pub ones_below : (h : Header) → Sound h → all_below (size h) (1 ∷ 1 ∷ []) ≡ true
ones_below h sound = weights_below h sound 1 (arithmetic (modulus_of h) sound.field).one_below

-- the bytes of a row times a weight
pub length_times : (h : Header) (w l : ℕ) (xs : List ℕ) (c : ℕ) → length (bytes_of w (row_times h l xs c)) ≡ w * l
unfolding row_times
length_times h w l xs c = length_bytes w _ ∙ ap (λ (x : ℕ). x * w) (length_from (λ t. mul (modulus_of h) (get_or xs t 0) c) 0 l) ∙ mul_comm l w

-- a row that was judged, with the bytes of a symbol told, and the room that it takes
module _ {h : Header} {l : ℕ} {s : List ℕ} (a : SymbolBuffer h 1 l s) where
  pub judged_row : (w : ℕ) → w ≡ width h → SymbolBytes h w 1 l s
  judged_row w wide = rw wide record { wide = refl; bytes = a.bytes ∙ lanes_long (width h) 1 l; symbol_rows = a.symbol_rows }
