-- The text of a comparison of layouts.
pub mod Comparison
