-- What each node adds where a row changes, and what the two calls promise.
pub mod Differences
pub mod Promise
-- Nothing here is promised to a caller of the library.
pub mod Inner
