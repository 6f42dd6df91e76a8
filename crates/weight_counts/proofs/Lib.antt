-- The weight distribution of every accepted record, and the loops that compute it.
pub mod Weights
pub mod Powers
pub mod Previous
pub mod Table
pub mod Sample
pub mod Refused
