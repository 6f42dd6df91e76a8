-- Laws of sums of rows: row by row, and digit by digit of the weights.
pub mod Combined
pub mod FirstWeights
pub mod Horner
pub mod Listing
pub mod Adding
pub mod OneLane
pub mod Turns
pub mod Halves
pub mod Pairs
pub mod WideSums
pub mod TileSums
pub mod Columns
