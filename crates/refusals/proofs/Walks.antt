-- Number 11 by a walk over the lanes of a buffer, and on one lane.
use mathlib.Core.Path.{◌≡◌, refl, sym, ap, ◌∙◌}
use mathlib.Core.Bool.{true, false, ◌&&◌, not, and_assoc}
use mathlib.Core.List.{List, [], ◌∷◌, ◌++◌}
use Prim.Native.Nat.{ℕ, ◌+◌, ◌-◌, ◌*◌, ◌≤◌, ◌<◌}
use native.Mathlib.Nat.{zero-div, add-sub_cancel_left}
use borrow.Author.Tests.{not-true, not-false}
use lib.Dec.{ltb}
use lib.ListN.{length, take, drop, take-append-drop, drop_of_length-le}
use lib.Seq.{drop-drop}
use Rattle.lists.specs.Numbers.{all_below}
use Rattle.lists.specs.Rows.{from}
use Rattle.lists.proofs.Rows.{part_length}
use Rattle.layout.specs.Layout.{share_layout}
use Rattle.layout.specs.Width.{symbols_of}
use Rattle.layout.proofs.Places.{share_by_lane}
use Rattle.layout.proofs.LaneParts.{lanes_long, lane_part}
use Rattle.layout.proofs.Readings.{symbols_append}
use Rattle.generator.specs.declared.Header.{Header}
use Rattle.generator.specs.Records.{size, width}
use Rattle.generator.proofs.Widths.{width_some}
use Rattle.refusals.specs.Conditions.{symbols_bad, lane_bad}

-- the bound of two lists that are joined
below_both : (q : ℕ) (s u : List ℕ) → all_below q (s ++ u) ≡ (all_below q s && all_below q u)
unfolding all_below
below_both q [] u = refl
below_both q (x ∷ s) u = ap (λ b. ltb x q && b) (below_both q s u) ∙ sym (and_assoc (ltb x q) (all_below q s) (all_below q u))

module _ (h : Header) (s : List ℕ) (a count l : ℕ) (is : l ≡ count * width h) (inside : a + l ≤ length s) where
  -- the part of l bytes from a on, and the rest
  apart : drop a s ≡ take (a + l - a) (drop a s) ++ drop (a + l) s
  apart = rw add-sub_cancel_left (sym (take-append-drop l (drop a s)) ∙ ap (λ (u : List ℕ). take l (drop a s) ++ u) (drop-drop l a s))

  -- so is the bound of their symbols
  bound : all_below (size h) (symbols_of (width h) (drop a s)) ≡ (all_below (size h) (symbols_of (width h) (take (a + l - a) (drop a s))) && all_below (size h) (symbols_of (width h) (drop (a + l) s)))
  bound =
      ap (λ (u : List ℕ). all_below (size h) (symbols_of (width h) u)) apart
      ∙ ap (all_below (size h)) (symbols_append (width h) count (take (a + l - a) (drop a s)) (drop (a + l) s) (width_some h) (part_length a l s inside ∙ is))
      ∙ below_both (size h) (symbols_of (width h) (take (a + l - a) (drop a s))) (symbols_of (width h) (drop (a + l) s))

  -- a lane of symbols
  pub part_good : symbols_bad h (take (a + l - a) (drop a s)) ≡ false → symbols_bad h (drop a s) ≡ symbols_bad h (drop (a + l) s)
  unfolding symbols_bad
  part_good e = let good = not-false (all_below (size h) (symbols_of (width h) (take (a + l - a) (drop a s)))) e in rw (bound, good)

  -- a lane with a number that is none
  pub part_bad : symbols_bad h (take (a + l - a) (drop a s)) ≡ true → symbols_bad h (drop a s) ≡ true
  unfolding symbols_bad
  part_bad e = let bad = not-true (all_below (size h) (symbols_of (width h) (take (a + l - a) (drop a s)))) e in rw (bound, bad)

-- no lane is left
pub parts_end : (h : Header) (s : List ℕ) (a : ℕ) → length s ≤ a → symbols_bad h (drop a s) ≡ false
unfolding symbols_bad symbols_of all_below from
parts_end h s a all = rw (drop_of_length-le s all, zero-div)

-- one lane is a part of the buffer
pub lane_bytes_lem : (h : Header) (l t : ℕ) (s : List ℕ) → length s ≡ h.n * l * width h → t < l → let size = width h * h.n in symbols_bad h (take (t * size + size - t * size) (drop (t * size) s)) ≡ lane_bad share_layout h l t s
unfolding symbols_bad lane_bad
lane_bytes_lem h l t s long inside =
    rw share_by_lane (ap (λ (u : List ℕ). not (all_below (size h) u)) (lane_part (width h) h.n l t s (long ∙ lanes_long (width h) h.n l) inside (width_some h)))
