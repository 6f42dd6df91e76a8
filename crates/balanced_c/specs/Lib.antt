-- What the functions of the C interface promise.
pub mod Calls
pub mod Lanes
pub mod Corrections
pub mod RowChanges
pub mod Version
pub mod Repairs
pub mod BytesCarried
