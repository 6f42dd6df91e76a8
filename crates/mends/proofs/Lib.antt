-- Laws of the single changes that make a lane a word of the code.
pub mod Sums
pub mod Powers
pub mod Geometric
pub mod Meaning
pub mod BySums
pub mod Front
pub mod Accepts
