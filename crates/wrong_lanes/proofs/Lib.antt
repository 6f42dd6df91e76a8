-- The laws of the checks of a lane, and of marks by them.
pub mod Shares
pub mod Marking
pub mod CheckRows
pub mod Checks
pub mod FirstNodes
