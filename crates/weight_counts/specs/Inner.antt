-- What the functions behind the promises give and rely on: counting all messages.
pub mod Counting
