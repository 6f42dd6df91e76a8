-- Laws of an update: the bytes of its lane, the loop over the nodes, its answers, equal symbols.
pub mod Lane
pub mod Judging
pub mod Rewriting
pub mod LaneBytes
pub mod Answering
pub mod EqualSymbols
pub mod Accepts
