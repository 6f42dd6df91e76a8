-- What the functions behind the promises give and rely on: sums from each place of a row on.
pub mod Windows
pub mod Tables
pub mod Sliding
