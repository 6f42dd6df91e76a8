-- Check sums cleared of the lost nodes, where they locate the faults, and that there is one message at most.
pub mod Cleared
pub mod CountIn
pub mod NearBut
pub mod Located
pub mod Messages
