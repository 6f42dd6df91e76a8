-- Laws of the finding: a multiple of a row begins with that row alone; at most one symbol and amount lead from a lane to another; what the answer means.
pub mod Starts
pub mod Multiples
pub mod Single
pub mod Meaning
pub mod Behind
pub mod Accepts
pub mod Applied
