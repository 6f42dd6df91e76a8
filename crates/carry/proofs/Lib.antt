-- What the proofs of the functions share.
pub mod Accepts
pub mod Words
pub mod Digits
pub mod Parts
pub mod Changes
pub mod Back
