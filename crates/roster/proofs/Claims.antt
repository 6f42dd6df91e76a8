-- What holds of the rosters of every record.
use Rattle.std.specs.Prelude.{Ok, Err}
use Rattle.generator.specs.Answers.{Answer}
use mathlib.Core.Path.{◌≡◌, refl}
use mathlib.Core.List.{List}
use Prim.Native.Nat.{ℕ}
use Rattle.generator.specs.declared.Header.{Header}
use Rattle.generator.specs.Records.{header_of, record_fault, record_of, Sound}
use Rattle.generator.proofs.Accepts.{accepted_sound, faultless_sound}
use Rattle.roster.specs.Claims.{RosterSays, RosterPromised}
use Rattle.roster.proofs.History.{kept}
use Rattle.roster.proofs.Stepping.{stepping, turned_away}
use Rattle.roster.proofs.Lowest.{lowest}
use Rattle.roster.proofs.OneJob.{jobs}
use Rattle.roster.proofs.Turns.{turns}

-- of a sound header
sound_says : (h : Header) → Sound h → RosterSays h
sound_says h s = record { kept = kept h s.byte; stepping = stepping h; lowest = lowest h s.some; jobs = jobs h s.some; turns = turns h s.some }

-- of an accepted record
pub roster_says : (rec : List ℕ) → record_fault rec ≡ 0 → RosterSays (header_of rec)
roster_says rec accepted = sound_says (header_of rec) (faultless_sound rec accepted)

-- of every record
pub roster_promised : (rec : List ℕ) → RosterPromised (record_of rec)
unfolding RosterPromised
roster_promised rec = go (record_of rec) refl
  where
    go : (read : Answer Header) → record_of rec ≡ read → RosterPromised read
    go (Ok h) e = sound_says h (accepted_sound rec h e)
    go (Err f) e = turned_away f
