-- The text of a plain layout.
pub mod Plain
