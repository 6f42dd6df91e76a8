-- The two kinds of field: the definitions that the contracts cite.
pub mod Primes
pub mod Bytes
pub mod Logarithms
pub mod Tables
pub mod Fields
pub mod Kinds
pub mod Widths
pub mod Symbols
pub mod Inner
