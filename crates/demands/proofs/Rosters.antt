-- What holds of the rosters of every record, in one place.
use Rattle.roster.proofs.Claims.{roster_says, roster_promised}
use Rattle.roster_bytes.proofs.Claims.{bytes_say}
use Rattle.demands.specs.Rosters.{Rosters}

pub rosters : Rosters
rosters = record { accepted = roster_says; promised = roster_promised; bytes = bytes_say }
