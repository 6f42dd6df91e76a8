-- What the functions behind the promises give and rely on: points, Lagrange's basis, coefficients.
pub mod Points
pub mod Lagrange
pub mod Polynomials
