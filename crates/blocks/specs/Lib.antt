-- Blocks and answers: the definitions that the contracts cite.
pub mod Blocks
pub mod Bytes
pub mod Answers
