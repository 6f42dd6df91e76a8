-- What the functions behind the promises give and rely on: shares of listed nodes, and the message of the first k of them.
pub mod Shares
