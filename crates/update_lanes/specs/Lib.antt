-- Runs of lanes that change at once, and what the call promises.
pub mod Runs
pub mod Promise
-- Nothing here is promised to a caller of the library.
pub mod Inner
