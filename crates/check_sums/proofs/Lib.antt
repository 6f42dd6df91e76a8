-- The laws of the check sums, and of the powers of the root.
pub mod FirstPowers
pub mod Front
pub mod Sums
pub mod Prefix
pub mod OneLane
