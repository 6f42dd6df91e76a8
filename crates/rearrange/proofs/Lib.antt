-- What a call says beside a number.
pub mod Refused
-- A column of a table of symbols.
pub mod Columns
pub mod Accepts
