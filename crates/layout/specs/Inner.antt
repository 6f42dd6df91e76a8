-- What the functions behind the promises give and rely on: buffers that are filled, tiles of lanes.
pub mod Filling
pub mod Tiles
pub mod Parts
