-- What two bytes ask for, what a code stores, and texts of single records.
pub mod Asking
pub mod Storage
pub mod Sample
