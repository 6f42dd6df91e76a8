-- What the functions behind the promises give and rely on: single changes from check sums.
pub mod BySums
