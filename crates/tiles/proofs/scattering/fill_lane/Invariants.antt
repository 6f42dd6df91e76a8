use Rattle.std.proofs.Common.{◌*◌, length}
use Rattle.lists.proofs.Parts.{Valued}
use Rattle.tiles.proofs.Rests.{lane_byte}
use Rattle.tiles.proofs.scattering.fill_lane.Given as goal

abbrev pub invariant-loop-b : goal.invariant-loop-b
invariant-loop-b l = Valued (lane_byte l.blocks l.t) (length l.initial.lane) l.initial.lane l.lane (l.b * 16)
