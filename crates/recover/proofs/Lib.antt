-- Weighted sums of the listed shares are shares and rows of the message, also tile by tile.
pub mod Rebuilding
pub mod Recovering
pub mod Tiles
pub mod Products
pub mod OneRow
pub mod Accepts
pub mod Laws
