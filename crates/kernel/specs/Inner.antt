-- What the functions behind the promises give and rely on: slices lane by lane, halves of products.
pub mod Lanes
pub mod Halves
