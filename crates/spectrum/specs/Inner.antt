-- What the functions behind the promises give and rely on: the spectrum of a lane.
pub mod Spectrum
