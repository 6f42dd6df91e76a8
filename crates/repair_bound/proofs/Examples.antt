-- The least bits at n = 255, for codes that are sold: with no node missing beside the target, and with 7.
use mathlib.Core.Path.{◌≡◌, refl}
use Rattle.repair_bound.specs.Additive.{worth, line_bits, greatest, least_bits}

at_51 : least_bits 254 51 ≡ 102
unfolding least_bits line_bits greatest worth
at_51 = refl

at_120 : (least_bits 254 120 ≡ 240) × (least_bits 247 120 ≡ 240)
unfolding least_bits line_bits greatest worth
at_120 = (refl, refl)

-- where the repair by traces of 1, 2 and 4 bits moves 254, 508 and 1,016
pub at_corners : (least_bits 254 127 ≡ 254) × (least_bits 254 191 ≡ 508) × (least_bits 254 239 ≡ 1016)
unfolding least_bits line_bits greatest worth
at_corners = (refl, refl, refl)

at_between : (least_bits 254 136 ≡ 288) × (least_bits 254 171 ≡ 428) × (least_bits 254 205 ≡ 618)
unfolding least_bits line_bits greatest worth
at_between = (refl, refl, refl)
