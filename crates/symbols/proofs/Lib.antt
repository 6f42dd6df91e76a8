-- What the proofs here share, and that a symbol fits its bytes.
pub mod Sizes
pub mod Below
pub mod Written
pub mod Fits
