-- What the functions behind the promises give and rely on: sums of rows times weights, the rows of a digit.
pub mod Combined
pub mod Digits
pub mod WideSums
pub mod Terms
