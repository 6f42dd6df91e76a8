-- Listed slices, added one after the other.
use Rattle.std.proofs.Common.{◌≡◌, ap, ◌∙◌, List, ℕ, zero, suc, ◌+◌, ◌-◌, ◌*◌, ◌<◌, arith, add-one, bit_xor, length, get_or, take, drop}
use lib.Bits.{xor_zero_r, xor_assoc}
use lib.Seq.{drop-length}
use Rattle.lists.proofs.Fill.{length_zeros}
use Rattle.lists.proofs.Front.{drop_next}
use Rattle.lists.proofs.Rows.{get_d_part}
use Rattle.field.specs.Bytes.{times_x}
use Rattle.kernel.specs.Inner.Lanes.{lanewise}
use Rattle.kernel.proofs.Lanes.{lanewise_same, lanewise_ext, lanewise_twice, length_lanewise}
use Rattle.row_sums.specs.Inner.Digits.{xor_sum, multiplied}
use Rattle.subset_sums.specs.Inner.Lists.{slices_added, turns_of}

module _ (tab os acc : List ℕ) where
  pub slices_none : (i : ℕ) → i ≡ length os → slices_added tab (drop i os) acc ≡ acc
  unfolding slices_added xor_sum
  slices_none i e = rw (e, drop-length) (lanewise_same _ acc (λ t inside. xor_zero_r (get_or acc t 0)))

  -- a slice more, lent as a part of the table
  pub slices_one : (i o : ℕ) → length acc ≡ 64 → i < length os → o ≡ get_or os i 0 → slices_added tab (drop (i + 1) os) (lanewise (λ t y. bit_xor y (get_or (take (o + 64 - o) (drop o tab)) t 0)) acc) ≡ slices_added tab (drop i os) acc
  unfolding slices_added xor_sum
  slices_one i o long inside e =
      rw (lanewise_twice, drop_next os i 0 inside, ← e)
      (lanewise_ext _ _ acc
      (λ t lane.
      ap (λ (x : ℕ). bit_xor (bit_xor (get_or acc t 0) x) (xor_sum (λ o. get_or tab (o + t) 0) (drop (i + 1) os))) (get_d_part o 64 tab t (omega (arith, long)))
      ∙ xor_assoc (get_or acc t 0) (get_or tab (o + t) 0) (xor_sum (λ o. get_or tab (o + t) 0) (drop (i + 1) os))))

pub length_turns : (b groups : ℕ) (tab list counts : List ℕ) → length (turns_of b groups tab list counts) ≡ 64
unfolding turns_of slices_added multiplied
length_turns zero groups tab list counts = length_zeros 64
length_turns (suc b) groups tab list counts =
    length_lanewise _ (multiplied (turns_of b groups tab list counts))
    ∙ length_lanewise _ (turns_of b groups tab list counts)
    ∙ length_turns b groups tab list counts

-- one turn of the loop
pub turns_next : (b groups : ℕ) (tab list counts acc : List ℕ) → acc ≡ turns_of b groups tab list counts → slices_added tab (take (get_or counts b 0) (drop (b * groups) list)) (lanewise (λ t y. times_x y) acc) ≡ turns_of (b + 1) groups tab list counts
unfolding turns_of multiplied
turns_next b groups tab list counts acc held = rw (add-one b, held)
