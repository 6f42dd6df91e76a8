-- How many bits a node sends, and what the tables of a repair hold.
pub mod Bits
pub mod Weights
