-- What the call promises.
pub mod Promise
pub mod Inner
