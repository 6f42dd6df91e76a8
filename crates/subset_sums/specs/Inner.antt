-- What the functions behind the promises give and rely on: sums of subsets of four rows.
pub mod Subsets
pub mod Lists
pub mod Spread
