-- Berlekamp and Massey's arrays, the roots of the locator, the errors there, and what the candidate decides.
pub mod Arrays
pub mod Differing
pub mod Bridge
pub mod Steps
pub mod Discrepancies
pub mod Values
pub mod Removing
pub mod RootNodes
pub mod ErrorSymbols
pub mod Locators
pub mod Repaired
pub mod NodeParts
pub mod Found
pub mod CandidateParts
pub mod Verdict
