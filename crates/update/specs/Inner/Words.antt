-- One lane of the shares by itself.
use Rattle.std.specs.Prelude.{◌≡◌, true, List, ℕ, ◌*◌, ◌<◌, length}
use Rattle.lists.specs.Numbers.{all_below}
use Rattle.layout.specs.Width.{symbols_of}
use Rattle.generator.specs.declared.Header.{Header}
use Rattle.generator.specs.Records.{size, width, Sound}

-- the bytes of a symbol for each node, w bytes each, and row r of the generator
pub record UpdatableWord (h : Header) (w r : ℕ) (lane : List ℕ) : Type 0 where
  pub sound : Sound h
  pub wide : w ≡ width h
  pub row : r < h.k
  pub bytes : length lane ≡ w * h.n
  pub symbols : all_below (size h) (symbols_of w lane) ≡ true
