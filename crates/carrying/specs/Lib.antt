-- Bytes carried in symbols of a field: lists that are changed group by group, masks, what carries bytes, and bytes that are changed there.
pub mod Groups
pub mod Masks
pub mod Carrying
pub mod Changing
