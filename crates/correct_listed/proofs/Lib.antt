-- The message of listed shares of which some are wrong: lane by lane, in counts, and in plain terms.
pub mod Lanes
pub mod Steps
pub mod Counts
pub mod SetLanes
pub mod Writing
pub mod Answers
pub mod Accepts
pub mod Room
pub mod Meaning
pub mod Agreement
