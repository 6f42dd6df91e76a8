-- What the functions behind the promises give and rely on: the inverse of the encoding at listed nodes.
pub mod Inverse
