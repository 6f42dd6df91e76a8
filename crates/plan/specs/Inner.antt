-- What functions that need no whole plan rely on.
pub mod Planned
