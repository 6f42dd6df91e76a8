-- The text of a plan sheet.
pub mod Sheet
pub mod Inner
