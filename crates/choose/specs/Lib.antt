-- Records that carry bytes, for every number of nodes.
pub mod Table
pub mod Promise
