-- Texts as lists of bytes, and what it is to put one into a buffer.
pub mod Text
pub mod Writing
pub mod Inner
