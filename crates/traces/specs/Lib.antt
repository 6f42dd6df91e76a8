-- Traces of bytes, the repair of a node's symbol by them, and what holds of both.
pub mod Traces
pub mod Repairs
pub mod Claims
