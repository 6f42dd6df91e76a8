-- Additive repairs of one node and the least that each of them moves; the repair by traces beside it.
pub mod Additive
pub mod Prices
