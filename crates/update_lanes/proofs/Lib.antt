-- Laws of a run of lanes: the searches of its numbers, the lanes that have changed and those to come, what is known where no number is met.
pub mod Searches
pub mod Lanes
pub mod Accepts
pub mod Answering
pub mod Judging
pub mod Rewriting
pub mod OneLane
