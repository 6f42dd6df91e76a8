-- What the functions behind the promises give and rely on: rows of symbols as tiles.
pub mod Rows
pub mod Changes
