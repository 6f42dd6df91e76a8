-- The first number that is met, what the conditions say, what holds where no number is met, and promises over records from promises over headers.
pub mod Order
pub mod OneByte
pub mod NotMet
pub mod Walks
pub mod Accepts
pub mod LaneSymbols
pub mod OnRecord
