-- What the answers of the count mean for its text.
pub mod Answers
