-- A buffer that is written part by part.
pub mod Parts
pub mod Beside
pub mod Shuffles
pub mod Blocks
pub mod Chunks
pub mod Rests
pub mod Gathered
pub mod Scattered
