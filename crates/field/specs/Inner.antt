-- What the functions behind the promises give and rely on: sums of products.
pub mod Sums
