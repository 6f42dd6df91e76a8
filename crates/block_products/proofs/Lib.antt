-- Laws of lanes and their sums.
pub mod Marks
pub mod MarkedRows
pub mod Lanes
pub mod Writing
