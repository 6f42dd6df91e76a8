-- What the functions behind the promises give and rely on: where a row begins.
pub mod Starts
