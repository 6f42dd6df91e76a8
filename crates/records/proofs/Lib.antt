-- A record as it is read, by its kind.
pub mod Reading
