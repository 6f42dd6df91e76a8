-- Records, the generator and its codewords: the definitions that the contracts cite, and what is claimed of every accepted record.
pub mod Records
pub mod Shifts
pub mod Generator
pub mod Codewords
pub mod Messages
pub mod Claims
pub mod Comparison
pub mod Pinned
pub mod Answers
pub mod Reading
pub mod Inner
