-- What the functions behind the promise give and rely on: a run that an update may change, and its lanes by themselves.
pub mod Ready
pub mod Lanes
