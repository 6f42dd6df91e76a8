-- The message nearest to the symbols of listed nodes.
pub mod Nearest
pub mod Inner
