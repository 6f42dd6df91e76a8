-- The spectrum of a lane: sums that are n times a coefficient, a symbol of a message from them, and how they are computed.
pub mod Inversion
pub mod Symbols
pub mod Arrays
pub mod Chirped
pub mod Lanes
pub mod Spectra
