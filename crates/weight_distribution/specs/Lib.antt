-- Weight distributions: the count over all messages, and the textbook count.
pub mod Counts
pub mod Choosing
pub mod Inner
