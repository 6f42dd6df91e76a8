-- The word nearest to a lane: the locator by Berlekamp and Massey, the places it vanishes at, the errors there.
pub mod Selection
pub mod Recurrence
pub mod Massey
pub mod Weights
pub mod Errors
pub mod Correction
pub mod Searches
pub mod Near
pub mod Corrected
pub mod Repair
