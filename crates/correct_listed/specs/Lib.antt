-- The message of listed shares of which some are wrong: the definitions that the contract cites, and what the functions behind the call rely on.
pub mod Blocks
pub mod Promise
pub mod Meaning
pub mod Inner
