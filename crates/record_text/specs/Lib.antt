-- The text of a record for n nodes of which k are needed.
pub mod Records
