-- A symbol fits the bytes that a lent buffer has for it.
pub use Rattle.generator.proofs.Widths.{size_fits_width, symbols_fit}
