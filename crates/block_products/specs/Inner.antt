-- What the functions behind the promises give and rely on: how lanes stand, and what is written.
pub mod Marks
pub mod Ways
