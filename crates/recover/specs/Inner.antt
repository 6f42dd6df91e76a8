-- What the functions behind the promises give and rely on: a share as a product of one row.
pub mod OneRow
