-- What the functions behind the promises give and rely on: shares and the marks of their lanes.
pub mod Marked
