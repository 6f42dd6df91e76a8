-- What the functions behind the promises give and rely on: one lane of listed shares.
pub mod Lanes
