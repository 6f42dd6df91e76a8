-- What nodes send and what is made of it are symbols.
use mathlib.Core.List.{List, [], ◌∷◌}
use Prim.Native.Nat.{ℕ, ◌<◌, ◌+◌, ◌-◌, ◌%◌}
use Rattle.field.proofs.Bounds.{one_below, sub_below, mul_below, power_below}
use Rattle.field.proofs.Inverse.{inverse_below}
use Rattle.generator.specs.declared.Header.{Header}
use Rattle.generator.specs.Records.{modulus_of, size, Sound}
use Rattle.traces.specs.Repairs.{ratio, offset, erasing, eraser, factor}

module _ (h : Header) (s : Sound h) (t : ℕ) where
  pub ratio_below : (j : ℕ) → ratio h t j < size h
  unfolding ratio
  ratio_below j = power_below (modulus_of h) s.field ((j + (h.n - t)) % h.n) s.root_below

  pub offset_below : (j : ℕ) → offset h t j < size h
  unfolding offset
  offset_below j = sub_below (modulus_of h) s.field (ratio_below j) (one_below (modulus_of h) s.field)

  pub erasing_below : (u m : ℕ) → u < size h → erasing h t u m < size h
  unfolding erasing
  erasing_below u m l = mul_below (modulus_of h) s.field (sub_below (modulus_of h) s.field l (ratio_below m)) (inverse_below (modulus_of h) s.field (sub_below (modulus_of h) s.field (one_below (modulus_of h) s.field) (ratio_below m)))

  pub eraser_below : (u : ℕ) (missing : List ℕ) → u < size h → eraser h t u missing < size h
  unfolding eraser
  eraser_below u [] l = one_below (modulus_of h) s.field
  eraser_below u (m ∷ missing) l = mul_below (modulus_of h) s.field (erasing_below u m l) (eraser_below u missing l)

  pub factor_below : (missing : List ℕ) (j : ℕ) → factor h t missing j < size h
  unfolding factor
  factor_below missing j = mul_below (modulus_of h) s.field (mul_below (modulus_of h) s.field (ratio_below j) (inverse_below (modulus_of h) s.field (offset_below j))) (eraser_below (ratio h t j) missing (ratio_below j))
