-- What the functions behind the calls give.
pub mod Rows
pub mod Sums
pub mod Lanes
