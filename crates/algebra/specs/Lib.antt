-- The laws of a field.
pub mod Field
pub mod Powers
