-- Symbols of w bytes: their number, symbols of one byte, and that symbols written as bytes are read again.
use mathlib.Core.Path.{◌≡◌, refl, sym, ap, ◌∙◌}
use mathlib.Core.List.{List, [], ◌∷◌, ◌++◌}
use Prim.Native.Nat.{ℕ, zero, suc, ◌+◌, ◌*◌, ◌/◌, ◌%◌, ◌<◌}
use native.Mathlib.Nat.{mul-one, zero-mul, suc-mul, zero-add, div-one, div-add-mod', mul-div_cancel}
use native.Mathlib.Omega.{arith}
use lib.ListN.{length, get_or, take, drop, length-append, drop_of_length-le}
use lib.Seq.{ext_get_or, take_at, drop-append-add}
use Rattle.lists.proofs.Front.{drop_next}
use Rattle.lists.proofs.Rows.{length_from, get_or_from}
use Rattle.layout.specs.Width.{value_from, symbol_at, symbols_of, symbol_bytes, bytes_of}

-- how many there are
pub length_symbols : (w : ℕ) (s : List ℕ) → length (symbols_of w s) ≡ length s / w
unfolding symbols_of
length_symbols w s = length_from (symbol_at w s) 0 (length s / w)

pub length_symbol : (w x : ℕ) → length (symbol_bytes w x) ≡ w
unfolding symbol_bytes
length_symbol zero x = refl
length_symbol (suc zero) x = refl
length_symbol (suc (suc w)) x = length-append (symbol_bytes (suc w) (x / 256)) (x % 256 ∷ []) ∙ omega (arith, length_symbol (suc w) (x / 256))

pub length_bytes : (w : ℕ) (xs : List ℕ) → length (bytes_of w xs) ≡ length xs * w
unfolding bytes_of
length_bytes w [] = sym (zero-mul w)
length_bytes w (x ∷ xs) = length-append (symbol_bytes w x) (bytes_of w xs) ∙ omega (arith, length_symbol w x, length_bytes w xs, suc-mul (length xs) w)

-- symbol i
pub get_or_symbols : (w : ℕ) (s : List ℕ) (i : ℕ) → i < length s / w → get_or (symbols_of w s) i 0 ≡ symbol_at w s i
unfolding symbols_of
get_or_symbols w s i h = rw zero-add at (get_or_from (symbol_at w s) 0 (length s / w) i 0 h)

-- a symbol of one byte is the byte
pub symbol_byte : (s : List ℕ) (i : ℕ) → i < length s → symbol_at 1 s i ≡ get_or s i 0
unfolding symbol_at value_from
symbol_byte s i h = rw (mul-one i, drop_next s i 0 h) (omega arith)

-- so symbols of one byte are the bytes ..
pub symbols_one : (s : List ℕ) → symbols_of 1 s ≡ s
symbols_one s =
    ext_get_or 0 _ s (length_symbols 1 s ∙ div-one (length s))
    (λ i h.
    let low : i < length s / 1 = rw (length_symbols 1 s) at h in
    get_or_symbols 1 s i low ∙ symbol_byte s i (omega (arith, div-one (length s))))

-- .. and the other way round
pub bytes_one : (xs : List ℕ) → bytes_of 1 xs ≡ xs
unfolding bytes_of symbol_bytes
bytes_one [] = refl
bytes_one (x ∷ xs) = ap (λ (ys : List ℕ). x ∷ ys) (bytes_one xs)

-- the value of joined digits
pub value_append : (a : ℕ) (xs ys : List ℕ) → value_from a (xs ++ ys) ≡ value_from (value_from a xs) ys
unfolding value_from
value_append a [] ys = refl
value_append a (x ∷ xs) ys = value_append (a * 256 + x) xs ys

-- a symbol is the value of its bytes
value_symbol : (w x : ℕ) → 0 < w → value_from 0 (symbol_bytes w x) ≡ x
unfolding value_from symbol_bytes
value_symbol zero x h = absurd (omega arith)
value_symbol (suc zero) x h = omega arith
value_symbol (suc (suc w)) x h =
    value_append 0 (symbol_bytes (suc w) (x / 256)) (x % 256 ∷ [])
    ∙ ap (λ (v : ℕ). v * 256 + x % 256) (value_symbol (suc w) (x / 256) (omega arith))
    ∙ div-add-mod' x 256

-- the bytes of the symbols from i on
pub drop_bytes : (w i : ℕ) (xs : List ℕ) → drop (i * w) (bytes_of w xs) ≡ bytes_of w (drop i xs)
unfolding bytes_of
drop_bytes w zero xs = rw (zero-mul w)
drop_bytes w (suc i) [] = drop_of_length-le {A = ℕ} [] {i = suc i * w} (omega arith)
drop_bytes w (suc i) (x ∷ xs) =
    let e : suc i * w ≡ length (symbol_bytes w x) + i * w = omega (arith, suc-mul i w, length_symbol w x) in
    rw (e, drop-append-add (symbol_bytes w x) (bytes_of w xs) (i * w)) (drop_bytes w i xs)

-- symbol i of bytes that were made of symbols
symbol_read : (w : ℕ) (xs : List ℕ) → 0 < w → (i : ℕ) → i < length xs → symbol_at w (bytes_of w xs) i ≡ get_or xs i 0
unfolding symbol_at bytes_of
symbol_read w xs some i h =
    ap (λ (s : List ℕ). value_from 0 (take w s)) (drop_bytes w i xs ∙ ap (bytes_of w) (drop_next xs i 0 h))
    ∙ ap (value_from 0) (take_at (symbol_bytes w (get_or xs i 0)) (bytes_of w (drop (i + 1) xs)) w (length_symbol w (get_or xs i 0)))
    ∙ value_symbol w (get_or xs i 0) some

-- symbols that are written as bytes are read again
pub symbols_bytes : (w : ℕ) (xs : List ℕ) → 0 < w → symbols_of w (bytes_of w xs) ≡ xs
symbols_bytes w xs some =
    let count : length (bytes_of w xs) / w ≡ length xs = ap (λ (n : ℕ). n / w) (length_bytes w xs) ∙ mul-div_cancel (length xs) some in
    ext_get_or 0 _ xs (length_symbols w (bytes_of w xs) ∙ count)
    (λ i h.
    let less : i < length (bytes_of w xs) / w = rw (length_symbols w (bytes_of w xs)) at h in
    get_or_symbols w (bytes_of w xs) i less ∙ symbol_read w xs some i (omega arith))
