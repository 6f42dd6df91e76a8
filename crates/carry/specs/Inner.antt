-- What the functions behind the promises give and rely on: what carries bytes.
pub mod Kinds
