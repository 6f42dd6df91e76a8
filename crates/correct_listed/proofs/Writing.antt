-- A message written to one lane of a message buffer, symbol after symbol among its bytes.
use mathlib.Core.Path.{◌≡◌, sym, ap, ◌∙◌}
use mathlib.Core.List.{List, [], ◌∷◌, ◌++◌, append-nil}
use Prim.Native.Nat.{ℕ, ◌+◌, ◌-◌, ◌*◌, ◌≤◌, ◌<◌}
use native.Mathlib.Nat.{one-mul, mul-le-mul, le_refl}
use native.Mathlib.Numerals.{add-one}
use native.Mathlib.Omega.{arith}
use lib.ListN.{length, set, take, drop}
use lib.Seq.{drop-drop, set_split}
use Rattle.lists.proofs.Rows.{row_after}
use Rattle.layout.specs.Layout.{row_after_row}
use Rattle.layout.specs.Width.{symbol_bytes, bytes_of}
use Rattle.layout.proofs.LaneParts.{lanes_long, bytes_replaced}
use Rattle.layout.proofs.Lawful.{by_row}
use Rattle.layout.proofs.Places.{place_by_row}
use Rattle.layout.proofs.Rewritten.{rewritten, length_rewritten, rewritten_row}

-- one symbol written in its place
symbol_put : (w : ℕ) (xs : List ℕ) (j v : ℕ) → j < length xs → take (j * w) (bytes_of w xs) ++ (symbol_bytes w v ++ drop (j * w + w - j * w) (drop (j * w) (bytes_of w xs))) ≡ bytes_of w (set xs j v)
unfolding bytes_of
symbol_put w xs j v inside =
    let size : j * w + w - j * w ≡ w = omega arith in
    ap (λ (b : List ℕ). take (j * w) (bytes_of w xs) ++ (b ++ drop (j * w + w - j * w) (drop (j * w) (bytes_of w xs)))) (sym (append-nil (symbol_bytes w v)))
    ∙ ap (λ (k : ℕ). take (j * w) (bytes_of w xs) ++ (bytes_of w (v ∷ []) ++ drop k (drop (j * w) (bytes_of w xs)))) (size ∙ sym (one-mul w))
    ∙ bytes_replaced w j 1 (v ∷ []) xs
    ∙ ap (bytes_of w) (ap (λ (u : List ℕ). take j xs ++ (v ∷ u)) (drop-drop 1 j xs ∙ ap (λ (x : ℕ). drop x xs) (add-one j)) ∙ sym (set_split xs j v inside))

-- row j of lane t
pub row_put : (w k l t : ℕ) (g : ℕ → ℕ) (ms : List ℕ) (j : ℕ) (now : List ℕ) (v : ℕ) → t < l → j < k → now ≡ bytes_of w (rewritten row_after_row k l t g ms j) → v ≡ g j → take ((j * l + t) * w) now ++ (symbol_bytes w v ++ drop ((j * l + t) * w + w - (j * l + t) * w) (drop ((j * l + t) * w) now)) ≡ bytes_of w (rewritten row_after_row k l t g ms (j + 1))
row_put w k l t g ms j now v inside row is value =
    let u = rewritten row_after_row k l t g ms j in
    let low : j * l + t < length u = rw (length_rewritten by_row k l t g ms j, ← place_by_row k l j t) (by_row.inside k l j t row inside) in
    ap (λ (x : List ℕ). take ((j * l + t) * w) x ++ (symbol_bytes w v ++ drop ((j * l + t) * w + w - (j * l + t) * w) (drop ((j * l + t) * w) x))) is
    ∙ symbol_put w u (j * l + t) v low
    ∙ ap (λ (p : ℕ). bytes_of w (set u p v)) (sym (place_by_row k l j t))
    ∙ ap (bytes_of w) (rewritten_row by_row k l t g ms inside j row v value)

-- its bytes lie within the buffer
pub place_fits : (w k l t j : ℕ) → t < l → j < k → (j * l + t) * w + w ≤ w * k * l
place_fits w k l t j inside row =
    let next : j * l + t + 1 ≤ k * l = rw (← place_by_row k l j t, add-one) (by_row.inside k l j t row inside) in
    let times : (j * l + t + 1) * w ≤ k * l * w = mul-le-mul next (le_refl w) in
    let step : (j * l + t + 1) * w ≡ (j * l + t) * w + w = row_after (j * l + t) w in
    rw (← lanes_long w k l, ← step) times
