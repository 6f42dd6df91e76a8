-- Laws of layouts and widths.
pub mod Lawful
pub mod Buffers
pub mod OneLane
pub mod Rewritten
pub mod Places
pub mod Runs
pub mod Stretches
pub mod Widths
pub mod Readings
pub mod Tiles
pub mod LaneParts
pub mod TileLanes
