-- What the functions behind the promises give and rely on: whose shares are moved, and how they stand.
pub mod Moves
