-- The plain layout by the weights of the first k nodes.
pub mod Entries
