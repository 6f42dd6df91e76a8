-- What the functions behind the promises give and rely on: the locator, the errors, the candidate.
pub mod Locating
pub mod Errors
pub mod Candidates
