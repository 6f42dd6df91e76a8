-- What the functions behind the promises give and rely on: columns of the generator, one lane.
pub mod Columns
pub mod OneLane
pub mod Encoded
