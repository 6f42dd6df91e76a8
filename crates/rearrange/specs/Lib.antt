-- What the rearrangements promise.
pub mod Promise
pub mod Inner
