-- What holds where none of the numbers of a lane, of rows or of a list is met.
use mathlib.Core.Path.{◌≡◌}
use mathlib.Core.Bool.{Bool, false}
use mathlib.Core.List.{List}
use Prim.Native.Nat.{ℕ, suc, ◌*◌}
use borrow.Author.Tests.{eq-eqb}
use lib.ListN.{length}
use Rattle.lists.specs.Choice.{first_of, when}
use Rattle.std.proofs.lemmas.Bool.{and_from}
use Rattle.lists.proofs.Cases.{first_zero, when_zero}
use Rattle.layout.specs.Width.{symbols_of}
use Rattle.layout.proofs.Readings.{count_symbols}
use Rattle.generator.specs.declared.Header.{Header}
use Rattle.generator.specs.Records.{width, Sound}
use Rattle.generator.specs.Claims.{are_nodes}
use Rattle.generator.proofs.Widths.{width_some}
use Rattle.refusals.specs.Conditions.{lanes_bad, length_bad, nodes_bad, twice_bad, symbols_bad}
use Rattle.refusals.specs.Faults.{list_fault}
use Rattle.refusals.specs.Accepted.{SymbolBuffer, IsLane, ListedShares}
use Rattle.refusals.proofs.NotMet.{lanes_good, length_good, nodes_good, twice_good, symbols_good}

-- a number that is not met, and the numbers after it
pub not_met : (t : Bool) (n rest : ℕ) → first_of (when t (suc n)) rest ≡ 0 → (t ≡ false) × (rest ≡ 0)
not_met t n rest e =
    let (none, after) = first_zero (when t (suc n)) rest e in
    (when_zero t n none, after)

-- one lane whose length and symbols pass
pub lane_accepts : (h : Header) (s : List ℕ) → length_bad (h.n * width h) (length s) ≡ false → symbols_bad h s ≡ false → (length s ≡ h.n * width h) × IsLane h (symbols_of (width h) s)
lane_accepts h s eight eleven =
    let bytes = length_good _ _ eight in
    (bytes, record { long = count_symbols (width h) h.n s (width_some h) bytes; symbols = symbols_good h s eleven })

module _ (h : Header) (sound : Sound h) (l : ℕ) where
  -- rows whose lanes, length and symbols pass
  pub rows_good : (rows : ℕ) (s : List ℕ) → lanes_bad l ≡ false → length_bad (rows * l * width h) (length s) ≡ false → symbols_bad h s ≡ false → SymbolBuffer h rows l s
  rows_good rows s seven eight eleven =
      let (some, few) = lanes_good l seven in
      let bytes = length_good (rows * l * width h) (length s) eight in
      record {
        bytes = bytes;
        symbol_rows = record {
          sound = sound;
          some_lane = some;
          few_lanes = few;
          long = count_symbols (width h) (rows * l) s (width_some h) bytes;
          symbols = symbols_good h s eleven;
        };
      }

  module _ (nodes shares : List ℕ) where
    -- a list of nodes and its shares
    pub list_accepts : lanes_bad l ≡ false → length_bad h.k (length nodes) ≡ false → length_bad (h.k * l * width h) (length shares) ≡ false → list_fault h nodes shares ≡ 0 → ListedShares h l nodes shares
    unfolding list_fault are_nodes
    list_accepts seven count long e =
        let (nine, after) = not_met (nodes_bad h nodes) 8 _ e in
        let (ten, last) = not_met (twice_bad nodes) 9 _ after in
        record {
          buffer = rows_good h.k shares seven long (when_zero (symbols_bad h shares) 10 last);
          different = and_from _ _ (eq-eqb (length nodes) h.k (length_good h.k (length nodes) count)) (and_from _ _ (nodes_good h nodes nine) (twice_good nodes ten));
        }
