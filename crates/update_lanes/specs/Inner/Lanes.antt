-- The lanes of a run by themselves.
use Rattle.std.specs.Prelude.{ℕ, ◌+◌}
use Rattle.layout.specs.Width.{symbol_at}
use Rattle.update.specs.declared.Update.{Update}
use Rattle.update_lanes.specs.declared.run.Run.{Run}

-- lane first + i, where a symbol has w bytes
abbrev pub lane_update : Run → ℕ → ℕ → Update
lane_update u w i = record { lanes = u.lanes; which = u.which; lane = u.first + i; old = symbol_at w u.old.now i; new = symbol_at w u.new.now i }
