-- The text of a weight distribution.
pub mod Weights
