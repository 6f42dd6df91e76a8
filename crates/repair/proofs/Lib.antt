-- Bits, planes and sums; what is sent gives the share back.
pub mod Digits
pub mod Bits
pub mod Adding
pub mod Sending
pub mod Accepts
pub mod Judging
