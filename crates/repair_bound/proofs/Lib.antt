-- The least bits that an additive repair of one node moves.
pub mod Factors  -- a map that several maps settle is a sum of combinations of their digits
pub mod Pairing  -- a pairing of bytes; how many bytes are paired to 0 with b bytes
pub mod Words  -- sums of messages and their words
pub mod Nodes  -- k nodes that leave out only nodes of a given kind
pub mod Least  -- the least bits of d nodes that are worth 255·k
pub mod Bound  -- what the nodes of an additive repair send is worth 255·k
pub mod Examples  -- numbers of the least bits
pub mod Prices  -- the repair by traces is such a repair, and where it moves the least
