-- What the functions behind the promises give and rely on: tiles as rows, squares of 16 by 16, parts of a list replaced.
pub mod Beside
pub mod Squares
pub mod Words
pub mod Tiles
