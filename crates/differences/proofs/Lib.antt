-- What the calls say where no number is met, and beside one.
pub mod Accepts
-- Sums with the weights 1 and −1.
mod Sums
-- Rows as tiles.
mod Tiles
