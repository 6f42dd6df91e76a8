-- The powers of 2, and the place of a number among them.
pub mod TwoPowers
pub mod Places
