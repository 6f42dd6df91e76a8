-- What the sheet of a record says.
pub mod Sheets
pub mod Sample
