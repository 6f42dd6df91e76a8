-- Buffers of rows and lanes, and symbols of one byte or more.
pub mod Layout
pub mod Width
pub mod Inner
