-- How many messages of a record have a word of each Hamming weight: the definitions that the contracts cite.
pub mod Weights
pub mod Inner
