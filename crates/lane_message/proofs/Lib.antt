-- A symbol of a word's message from the word's spectrum.
pub mod Formula
pub mod SpectrumParts
pub mod Points
pub mod BaseSteps
pub mod BaseInverses
pub mod Monic
pub mod RowProduct
pub mod Reading
pub mod Numbers
