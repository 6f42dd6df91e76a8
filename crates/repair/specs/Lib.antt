-- Packed digits, what is sent and what is made of it, what a target stands for, and what the calls promise; what inner functions give.
pub mod Packing
pub mod Sent
pub mod Asked
pub mod Promise
pub mod Inner
