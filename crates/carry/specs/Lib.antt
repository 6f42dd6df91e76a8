-- What the calls that carry bytes promise. What callers see does not cite Inner.
pub mod Promise
pub mod Inner
