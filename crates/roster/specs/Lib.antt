-- Rosters, events and jobs: the definitions that the contracts cite, and what is claimed of every history and every run.
pub mod Events
pub mod Rosters
pub mod Histories
pub mod Runs
pub mod Claims
