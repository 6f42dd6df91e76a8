-- Comparisons of single records.
pub mod Sample
