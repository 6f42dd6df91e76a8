-- Where a symbol has one byte: symbols are the bytes, and a buffer has as many bytes as symbols.
use mathlib.Core.Path.{◌≡◌, ap, ◌∙◌}
use mathlib.Core.Bool.{not}
use mathlib.Core.List.{List}
use Prim.Native.Nat.{ℕ, ◌*◌}
use native.Mathlib.Nat.{mul-one}
use Rattle.lists.specs.Numbers.{all_below}
use Rattle.layout.specs.Layout.{Arrangement, lane_of}
use Rattle.layout.specs.Width.{symbols_of, bytes_of}
use Rattle.layout.proofs.Widths.{symbols_one, bytes_one}
use Rattle.generator.specs.declared.Header.{Header}
use Rattle.generator.specs.Records.{size, width}
use Rattle.refusals.specs.Conditions.{symbols_bad, lane_bad}

module _ (h : Header) (one : width h ≡ 1) where
  pub symbols_are : (s : List ℕ) → symbols_of (width h) s ≡ s
  symbols_are s = ap (λ (w : ℕ). symbols_of w s) one ∙ symbols_one s

  pub bytes_are : (xs : List ℕ) → bytes_of (width h) xs ≡ xs
  bytes_are xs = ap (λ (w : ℕ). bytes_of w xs) one ∙ bytes_one xs

  pub times_width : (count : ℕ) → count * width h ≡ count
  times_width count = ap (λ (w : ℕ). count * w) one ∙ mul-one count

  pub symbols_test : (s : List ℕ) → symbols_bad h s ≡ not (all_below (size h) s)
  unfolding symbols_bad
  symbols_test s = rw (symbols_are s)

  pub lane_test : (y : Arrangement) (l t : ℕ) (s : List ℕ) → lane_bad y h l t s ≡ not (all_below (size h) (lane_of y h.n l t s))
  unfolding lane_bad
  lane_test y l t s = rw (symbols_are s)
