-- What the functions behind the promises give and rely on: marks of lanes, checks as a matrix.
pub mod Marks
pub mod Checks
