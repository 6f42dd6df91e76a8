-- Blocks set right: the definitions that the contract cites, and what the functions behind the call rely on.
pub mod Blocks
pub mod Meaning
pub mod Inner
pub mod Promise
