-- The text of the field's tables.
pub mod Tables
