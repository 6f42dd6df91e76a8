-- What the functions behind the promises give and rely on: a lane that an update may change.
pub mod Words
