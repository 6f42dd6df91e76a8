-- The shifts as they are lent.
use mathlib.Core.Path.{◌≡◌}
use lib.ListN.{take}
use Rattle.lists.specs.Padded.{padded}
use Rattle.lists.proofs.Padding.{take_padded}
use Rattle.generator.specs.declared.Header.{Header}
use Rattle.generator.specs.Records.{Sound}
use Rattle.generator.specs.Shifts.{shifts}
use Rattle.generator.proofs.Shifts.{shifts_length}

-- the first k places of the padded shifts are the shifts
pub shifts_part : (h : Header) → Sound h → take h.k (padded 255 (shifts h)) ≡ shifts h
shifts_part h s = take_padded 255 h.k (shifts h) (shifts_length h.n h.k s.some s.fits)
