-- The weight distribution of every code of distance n − k + 1.
pub mod Sums
pub mod Moves
pub mod Messages
pub mod Zeros
pub mod Prescribed
pub mod Terms
pub mod Distribution
pub mod Choosing
