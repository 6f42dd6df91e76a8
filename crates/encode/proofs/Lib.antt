-- Sums of the base word's entries times symbols that stand at the places of their rows' shifts.
pub mod Placed
-- One lane of them, in the order of the nodes.
pub mod OneLane
-- The products of the nodes' columns and the lanes.
pub mod Words
-- The shares as bytes, lane after lane.
pub mod Shares
-- What holds where the call meets no number, and beside one.
pub mod Accepts
