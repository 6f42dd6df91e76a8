-- What the proofs of the C interface's functions share.
mod Answers
pub mod Plans
mod Lanes
mod Corrections
mod RowChanges
mod Repairing
mod BytesCarried
