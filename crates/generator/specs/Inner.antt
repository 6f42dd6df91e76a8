-- What the functions and proofs behind the promises give and rely on.
pub mod Answers
