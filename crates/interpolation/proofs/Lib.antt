-- Powers of the root, values of products and of Lagrange's basis polynomials, coefficients of polynomials.
pub mod Points
pub mod Values
pub mod Stretches
pub mod Basis
pub mod Coefficients
-- They are those of the algebra.
pub mod Bridge
-- Sums of products.
pub mod Dots
pub mod PaddedSums
-- Lists that are read from their end.
pub mod FromEnd
