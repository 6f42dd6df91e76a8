-- The inverse of the encoding at listed nodes.
pub mod Rows
pub mod Prepared
pub mod Room
