-- Rosters as bytes: a roster that is written and read again is the same, and so is every history of events and jobs.
pub mod Reading
pub mod Giving
pub mod Histories
pub mod Claims
