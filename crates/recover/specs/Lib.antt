-- What the calls of this crate promise.
pub mod Promise
pub mod Inner
