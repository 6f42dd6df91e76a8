-- How many bits a node sends; what inner functions give.
pub mod Inner
