-- Nothing here is promised to a caller of the library.
pub mod Inner
