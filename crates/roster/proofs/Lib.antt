-- Laws of rosters, events and jobs, and what holds of every accepted record's rosters.
pub mod Nodes
pub mod Stepping
pub mod Lowest
pub mod OneJob
pub mod History
pub mod Turns
pub mod Claims
pub mod Examples
