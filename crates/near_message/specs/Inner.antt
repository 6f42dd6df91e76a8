-- What proofs and functions behind the promises rely on: lanes of which some nodes are lost, and listed symbols as such lanes.
pub mod Lost
pub mod Listed
