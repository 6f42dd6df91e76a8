-- What turns a call away: the condition of each number, the numbers of each call, and what holds where none is met.
pub mod Conditions
pub mod Faults
pub mod Accepted
pub mod Promise
pub mod Inner
