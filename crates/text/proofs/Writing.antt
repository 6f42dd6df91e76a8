-- Texts that are put one after another fill a buffer.
use mathlib.Core.Path.{◌≡◌, sym, ◌∙◌}
use mathlib.Core.List.{List, [], ◌++◌, append_assoc}
use Prim.Native.Nat.{ℕ, ◌≤◌}
use native.Mathlib.Omega.{arith}
use lib.ListN.{length, take, drop, length-append, take-append-drop}
use lib.Seq.{length-take-le, take_at, drop_at, drop-drop}
use Rattle.text.specs.Writing.{OnPage}
use Rattle.text.specs.Inner.Writing.{written, Puts}

-- two texts one after the other
pub puts_then : {s t u : List ℕ} {at next last : ℕ} {xs ys : List ℕ} → Puts s t at next xs → Puts t u next last ys → at ≤ length s → Puts s u at last (xs ++ ys)
unfolding written
puts_then {s} {t} {u} {at} {next} {last} {xs} {ys} p q h =
    let front : length (take at s ++ xs) ≡ next = length-append (take at s) xs ∙ rw (length-take-le at s h) (sym p.place) in
    let split : t ≡ (take at s ++ xs) ++ drop (length xs) (drop at s) = p.bytes ∙ sym (append_assoc (take at s) xs _) in
    record {
      place = q.place ∙ rw (p.place, length-append) (omega arith);
      bytes =
          q.bytes
          ∙ rw (split, take_at _ (drop (length xs) (drop at s)) next front, drop_at _ (drop (length xs) (drop at s)) next front)
          (rw (length-append, append_assoc (take at s), append_assoc xs ys, drop-drop (length ys) (length xs) (drop at s)));
    }

-- no text
pub puts_none : (s : List ℕ) (at : ℕ) → Puts s s at at []
unfolding written
puts_none s at = record { place = omega arith; bytes = sym (take-append-drop at s) }

-- a text at the front: the buffer afterwards, the length, and that it lies within the buffer
pub puts_front : {s t : List ℕ} {next : ℕ} {text : List ℕ} → Puts s t 0 next text → OnPage s t next text
unfolding written
puts_front {s} {t} {next} {text} p =
    let size : next ≡ length text = omega (arith, p.place) in
    let front : t ≡ text ++ drop next s = rw size p.bytes in
    let within : next ≤ length t = rw front (simp length-append (omega arith)) in
    (front, size, within, sym (length-take-le next t within))
