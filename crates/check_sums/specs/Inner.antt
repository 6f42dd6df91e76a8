-- What the functions behind the promises give and rely on: powers of the root, check sums of one lane.
pub mod Powers
pub mod Sums
