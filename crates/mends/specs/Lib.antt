-- The single changes that make a lane a word of the code: the definitions that the contracts cite.
pub mod Mends
pub mod Promise
pub mod Inner
