-- The price line, proved for every scheme, and what the plain layout costs.
pub mod Sums
pub mod Deciding
pub mod Bounds
pub mod Spread
pub mod Tightness
pub mod Repetition
pub mod Plain
pub mod Figures
pub mod Messages
pub mod Agreement
