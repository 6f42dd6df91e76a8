-- Symbols that are read from bytes: how many there are, their bound, and that they are written as the same bytes again.
use mathlib.Core.Path.{◌≡◌, refl, sym, ap, ap₂, ◌∙◌}
use mathlib.Core.Bool.{true}
use mathlib.Core.List.{List, [], ◌∷◌, ◌++◌}
use Prim.Native.Nat.{ℕ, zero, suc, ◌+◌, ◌*◌, ◌/◌, ◌%◌, ◌^◌, ◌≤◌, ◌<◌}
use native.Mathlib.Nat.{mul-one, zero-mul, zero-add, add-zero, add-mul, one-mul, mul_assoc, mul-le-mul_right, lt_of_lt_of_le, le-div_iff_mul-le, div-lt_iff_lt-mul, mod-lt, mul-div_cancel, mul-add-div_right, pow-zero, pow-suc, pow-succ'}
use native.Mathlib.Omega.{arith}
use lib.Arith.{digits_div, digits_mod}
use lib.ListN.{length, get_or, take, drop, length-drop, take-append-drop, length-append, drop_of_length-le, get_or-append}
use lib.Seq.{take-append-le, drop-append-le, drop-append-add, ext_get_or, take-suc, take_all, length-take-le, drop-drop, get_or-take, get_or-drop}
use Rattle.lists.specs.Rows.{from}
use Rattle.lists.specs.Numbers.{all_below}
use Rattle.lists.proofs.Front.{drop_next}
use Rattle.lists.proofs.Numbers.{below_cons, cons_below, below_at, at_below, below_take, below_drop, below_append}
use Rattle.lists.proofs.Rows.{length_from, get_or_from, from_ext, from_append, from_move, row_inside}
use Rattle.layout.specs.Width.{value_from, symbol_at, symbols_of, symbol_bytes, bytes_of}
use Rattle.layout.proofs.Widths.{length_symbols, get_or_symbols, value_append, length_symbol, drop_bytes}

-- so many symbols have w bytes each
pub count_symbols : (w count : ℕ) (s : List ℕ) → 0 < w → length s ≡ count * w → length (symbols_of w s) ≡ count
count_symbols w count s some long = length_symbols w s ∙ ap (λ (n : ℕ). n / w) long ∙ mul-div_cancel count some

-- a symbol ends within the bytes
pub symbol_inside : (w : ℕ) (s : List ℕ) (i : ℕ) → 0 < w → i < length s / w → i * w + w ≤ length s
symbol_inside w s i some h =
    let next : i + 1 ≤ length s / w = omega arith in
    let e : (i + 1) * w ≡ i * w + w = rw (add-mul, one-mul) in
    rw e at ((le-div_iff_mul-le some).0 next)

-- its bytes by their places
pub symbol_digits : (w : ℕ) (s : List ℕ) (i : ℕ) → i * w + w ≤ length s → symbol_at w s i ≡ value_from 0 (from (λ v. get_or s (i * w + v) 0) 0 w)
unfolding symbol_at
symbol_digits w s i inside =
    let long : length (take w (drop (i * w) s)) ≡ w = length-take-le w (drop (i * w) s) (omega (arith, length-drop (i * w) s)) in
    ap (value_from 0)
    (ext_get_or 0 _ _ (long ∙ sym (length_from (λ v. get_or s (i * w + v) 0) 0 w))
    (λ v h.
    let low : v < w = omega arith in
    get_or-take w (drop (i * w) s) v 0 low ∙ get_or-drop (i * w) s v 0 ∙ sym (rw zero-add at (get_or_from (λ v. get_or s (i * w + v) 0) 0 w v 0 low))))

-- digits below 256 are a number below that power of 256
value_below : (a : ℕ) (bs : List ℕ) → all_below 256 bs ≡ true → value_from a bs < (a + 1) * 256 ^ length bs
unfolding value_from
value_below a [] h = rw (pow-zero, mul-one) (omega arith)
value_below a (b ∷ bs) h =
    let (low, rest) = below_cons 256 b bs h in
    let e : (a + 1) * 256 ^ suc (length bs) ≡ (a + 1) * 256 * 256 ^ length bs = ap (λ (x : ℕ). (a + 1) * x) (pow-succ' 256 (length bs)) ∙ sym (mul_assoc (a + 1) 256 (256 ^ length bs)) in
    let less : a * 256 + b + 1 ≤ (a + 1) * 256 = omega arith in
    rw e (lt_of_lt_of_le (value_below (a * 256 + b) bs rest) (mul-le-mul_right (256 ^ length bs) less))

-- a symbol of bytes is below the power of 256
pub symbol_below : (w : ℕ) (s : List ℕ) (i : ℕ) → i * w + w ≤ length s → all_below 256 s ≡ true → symbol_at w s i < 256 ^ w
unfolding symbol_at
symbol_below w s i inside low =
    let long : length (take w (drop (i * w) s)) ≡ w = length-take-le w (drop (i * w) s) (omega (arith, length-drop (i * w) s)) in
    rw (zero-add, one-mul, long) at (value_below 0 (take w (drop (i * w) s)) (below_take 256 w (drop (i * w) s) (below_drop 256 (i * w) s low)))

pub symbols_below : (w : ℕ) (s : List ℕ) → 0 < w → all_below 256 s ≡ true → all_below (256 ^ w) (symbols_of w s) ≡ true
symbols_below w s some low =
    at_below (256 ^ w) (symbols_of w s)
    (λ i h.
    let less : i < length s / w = rw (length_symbols w s) at h in
    rw (get_or_symbols w s i less) (symbol_below w s i (symbol_inside w s i some less) low))

-- and the bytes of such a symbol are bytes
symbol_bytes_below : (w x : ℕ) → x < 256 ^ w → all_below 256 (symbol_bytes w x) ≡ true
unfolding symbol_bytes all_below
symbol_bytes_below zero x h = refl
symbol_bytes_below (suc zero) x h = cons_below 256 x [] h refl
symbol_bytes_below (suc (suc w)) x h =
    below_append 256 (symbol_bytes (suc w) (x / 256)) (x % 256 ∷ [])
    (symbol_bytes_below (suc w) (x / 256) ((div-lt_iff_lt-mul (omega arith)).1 (rw (pow-suc 256 (suc w)) at h)))
    (cons_below 256 (x % 256) [] (mod-lt x (omega arith)) refl)

pub bytes_below : (w : ℕ) (xs : List ℕ) → all_below (256 ^ w) xs ≡ true → all_below 256 (bytes_of w xs) ≡ true
unfolding bytes_of all_below
bytes_below w [] h = refl
bytes_below w (x ∷ xs) h =
    let (low, rest) = below_cons (256 ^ w) x xs h in
    below_append 256 (symbol_bytes w x) (bytes_of w xs) (symbol_bytes_below w x low) (bytes_below w xs rest)

-- bytes that are read as a symbol are its bytes
bytes_value : (w : ℕ) (bs : List ℕ) → 0 < w → length bs ≡ w → all_below 256 bs ≡ true → symbol_bytes w (value_from 0 bs) ≡ bs
unfolding symbol_bytes value_from
bytes_value zero bs some long low = absurd (omega arith)
bytes_value (suc zero) [] some long low = absurd (omega arith)
bytes_value (suc zero) (b ∷ []) some long low = ap (λ (x : ℕ). x ∷ []) (omega arith)
bytes_value (suc zero) (b ∷ d ∷ bs) some long low = absurd (omega arith)
bytes_value (suc (suc w)) bs some long low =
    let last = get_or bs (suc w) 0 in
    let first = take (suc w) bs in
    let split : bs ≡ first ++ (last ∷ []) = sym (take_all (suc (suc w)) bs (omega arith)) ∙ take-suc bs (suc w) 0 (omega arith) in
    let value : value_from 0 bs ≡ value_from 0 first * 256 + last = ap (value_from 0) split ∙ value_append 0 first (last ∷ []) in
    let byte : last < 256 = below_at 256 bs low (suc w) (omega arith) in
    ap₂ (λ (x y : ℕ). symbol_bytes (suc w) x ++ (y ∷ [])) (ap (λ (x : ℕ). x / 256) value ∙ digits_div (value_from 0 first) byte) (ap (λ (x : ℕ). x % 256) value ∙ digits_mod (value_from 0 first) byte)
    ∙ ap (λ (l : List ℕ). l ++ (last ∷ [])) (bytes_value (suc w) first (omega arith) (length-take-le (suc w) bs (omega arith)) (below_take 256 (suc w) bs low))
    ∙ sym split

-- the bytes of the symbols from i on
bytes_from : (w : ℕ) (s : List ℕ) → 0 < w → all_below 256 s ≡ true → (n i : ℕ) → length s ≡ (i + n) * w → bytes_of w (from (symbol_at w s) i n) ≡ drop (i * w) s
unfolding bytes_of from symbol_at
bytes_from w s some low zero i long =
    let none : length s ≤ i * w = omega (arith, ap (λ (x : ℕ). x * w) (add-zero i)) in
    sym (drop_of_length-le s none)
bytes_from w s some low (suc n) i long =
    let e : (i + 1) * w ≡ i * w + w = rw (add-mul, one-mul) in
    let more : i + 1 + n ≡ i + suc n = omega arith in
    let whole : length s ≡ (i + 1 + n) * w = long ∙ ap (λ (x : ℕ). x * w) (sym more) in
    let parts : (i + 1 + n) * w ≡ (i + 1) * w + n * w = add-mul (i + 1) n w in
    let part : length (take w (drop (i * w) s)) ≡ w = length-take-le w (drop (i * w) s) (omega (arith, length-drop (i * w) s)) in
    ap₂ ◌++◌ (bytes_value w (take w (drop (i * w) s)) some part (below_take 256 w (drop (i * w) s) (below_drop 256 (i * w) s low)))
    (bytes_from w s some low n (i + 1) whole ∙ ap (λ (x : ℕ). drop x s) e ∙ sym (drop-drop w (i * w) s))
    ∙ take-append-drop w (drop (i * w) s)

-- bytes that are read as symbols are written again
pub bytes_symbols : (w count : ℕ) (s : List ℕ) → 0 < w → length s ≡ count * w → all_below 256 s ≡ true → bytes_of w (symbols_of w s) ≡ s
unfolding symbols_of
bytes_symbols w count s some long low =
    let many : length s / w ≡ count = ap (λ (n : ℕ). n / w) long ∙ mul-div_cancel count some in
    let all : length s ≡ (0 + count) * w = long ∙ ap (λ (x : ℕ). x * w) (sym (zero-add count)) in
    ap (λ (n : ℕ). bytes_of w (from (symbol_at w s) 0 n)) many
    ∙ bytes_from w s some low count 0 all
    ∙ ap (λ (x : ℕ). drop x s) (zero-mul w)

-- a symbol of two bytes
pub symbol_pair : (s : List ℕ) (i : ℕ) → i * 2 + 2 ≤ length s → symbol_at 2 s i ≡ get_or s (i * 2) 0 * 256 + get_or s (i * 2 + 1) 0
unfolding from value_from
symbol_pair s i inside = symbol_digits 2 s i inside ∙ rw (add-zero (i * 2)) (omega arith)

-- byte v of symbol i of symbols that are written
pub get_or_bytes : (w : ℕ) (xs : List ℕ) (i v : ℕ) → i < length xs → v < w → get_or (bytes_of w xs) (i * w + v) 0 ≡ get_or (symbol_bytes w (get_or xs i 0)) v 0
unfolding bytes_of
get_or_bytes w xs i v h low =
    sym (get_or-drop (i * w) (bytes_of w xs) v 0)
    ∙ ap (λ (l : List ℕ). get_or l v 0) (drop_bytes w i xs ∙ ap (bytes_of w) (drop_next xs i 0 h))
    ∙ get_or-append (symbol_bytes w (get_or xs i 0)) (bytes_of w (drop (i + 1) xs)) 0 v (omega (arith, length_symbol w (get_or xs i 0)))

-- symbols of bytes that are joined where a symbol ends
module _ (w count : ℕ) (xs ys : List ℕ) (some : 0 < w) (long : length xs ≡ count * w) where
  -- a symbol of the first ones, and of the others
  symbol_first : (i : ℕ) → i < count → symbol_at w (xs ++ ys) i ≡ symbol_at w xs i
  unfolding symbol_at
  symbol_first i h =
      let ends : i * w + w ≤ length xs = rw long (row_inside count i w h) in
      ap (value_from 0)
      (ap (take w) (drop-append-le (i * w) xs ys (omega arith))
      ∙ take-append-le w (drop (i * w) xs) ys (omega (arith, length-drop (i * w) xs)))

  symbol_after : (i : ℕ) → symbol_at w (xs ++ ys) (count + i) ≡ symbol_at w ys i
  unfolding symbol_at
  symbol_after i =
      let place : (count + i) * w ≡ length xs + i * w = omega (arith, add-mul count i w) in
      ap (λ (l : List ℕ). value_from 0 (take w l)) (ap (λ (x : ℕ). drop x (xs ++ ys)) place ∙ drop-append-add xs ys (i * w))

  pub symbols_append : symbols_of w (xs ++ ys) ≡ symbols_of w xs ++ symbols_of w ys
  unfolding symbols_of
  symbols_append =
      let first : length xs / w ≡ count = ap (λ (n : ℕ). n / w) long ∙ mul-div_cancel count some in
      let all : length (xs ++ ys) / w ≡ count + length ys / w = ap (λ (n : ℕ). n / w) (length-append xs ys ∙ ap (λ (n : ℕ). n + length ys) long) ∙ mul-add-div_right some count (length ys) in
      ap (from (symbol_at w (xs ++ ys)) 0) all
      ∙ from_append (symbol_at w (xs ++ ys)) 0 count (length ys / w)
      ∙ ap₂ ◌++◌
      (from_ext _ (symbol_at w xs) 0 count (λ i low high. symbol_first i (omega arith)) ∙ ap (from (symbol_at w xs) 0) (sym first))
      (ap (λ (x : ℕ). from (symbol_at w (xs ++ ys)) x (length ys / w)) (omega arith)
      ∙ sym (from_move (symbol_at w (xs ++ ys)) count 0 (length ys / w))
      ∙ from_ext _ (symbol_at w ys) 0 (length ys / w) (λ i low high. symbol_after i))
