-- Laws of the small plans.
pub mod Stretch  -- rows that are empty outside a stretch
pub mod OrderBound  -- the order of a symbol is at most the field's size
pub mod Lines  -- which records are accepted, and so which lines there are
