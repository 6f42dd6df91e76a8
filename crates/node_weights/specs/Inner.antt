-- What the functions behind the promises give and rely on: weights for listed nodes.
pub mod Weights
pub mod Rows
