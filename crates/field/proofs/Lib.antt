-- The laws of both kinds of field. Arithmetic modulo a prime:
pub mod Modular
pub mod Primes
pub mod Meanings
pub mod PrimeInverse
-- Bytes:
pub mod Computed
pub mod Xor
pub mod Additive
pub mod Product
pub mod ByteInverse
pub mod ByteSteps
-- Both kinds: the laws on numbers, inverses, bounds, powers.
pub mod Arithmetic
pub mod BothKinds
pub mod Inverse
pub mod Bounds
pub mod Powers
pub mod KindLaws
pub mod Widths
-- Tables of the field of 256 elements.
pub mod TableLaws
-- The field of symbols, sums and orders in it.
pub mod Symbols
pub mod FieldOf
pub mod Sums
pub mod Orders
-- The same arithmetic in another form.
pub mod Agreement
