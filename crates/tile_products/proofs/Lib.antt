-- Laws of products over a prime field that are reduced at the end.
pub mod Reduction
pub mod Held
pub mod Scaling
pub mod Lanes
pub mod Arms
pub mod Beginning
pub mod Fitting
