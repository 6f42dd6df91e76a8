-- What a scheme is, what it costs, and the plain layout.
pub mod Messages
pub mod Schemes
pub mod Sums
pub mod Costs
pub mod Layouts
pub mod Inner
