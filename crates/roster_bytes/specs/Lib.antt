-- Rosters as bytes, what the calls promise, and what holds of calls one after the other.
pub mod Bytes
pub mod Calls
pub mod Histories
