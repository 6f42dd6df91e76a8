pub mod Masks  -- a mask is found, digit by digit
pub mod Grouping  -- lists changed group by group
pub mod Carried  -- words that are carried_bytes are read again, in symbols below p
pub mod Replaced  -- a part of a list replaced
pub mod Changing  -- bytes that are changed where symbols carry them
pub mod Bytes  -- bytes in symbols of two bytes
pub mod BothKinds  -- bytes over either kind of field
pub mod OneByte  -- one byte that is changed: one symbol
pub mod Examples  -- worked examples
