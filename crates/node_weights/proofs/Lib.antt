-- A weight in a row is a symbol, and an entry of the inverse of the encoding.
pub mod InverseRows
-- The parts of a basis that code lends.
pub mod Parts
-- The weights are good.
pub mod Weights
pub mod Rebuilding
pub mod Recovering
