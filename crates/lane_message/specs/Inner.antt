-- What the functions behind the promises give and rely on: a symbol of a word's message, from the word's sums.
pub mod Symbols
pub mod Rows
