-- What the functions behind the promises give and rely on: a matrix of weights and a tile of rows.
pub mod Ratios
pub mod Products
pub mod Matrices
