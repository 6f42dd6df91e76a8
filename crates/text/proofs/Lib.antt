-- Laws of the texts and of what puts them into a buffer.
pub mod Writing
pub mod Digits
pub mod Written
