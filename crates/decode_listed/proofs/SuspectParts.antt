-- What the candidate is made of, the nodes that may be wrong and the errors there; and that it is what every word near but for the lost nodes must be.
use mathlib.Core.Path.{◌≡◌}
use mathlib.Core.List.{List}
use Prim.Native.Nat.{ℕ, ◌+◌}
use lib.ListN.{take}
use Rattle.lists.specs.Padded.{padded}
use Rattle.generator.specs.declared.Header.{Header}
use Rattle.generator.specs.Records.{modulus_of}
use Rattle.check_sums.specs.Inner.Sums.{check_sums}
use Rattle.near_message.specs.Inner.Lost.{lost_radius}
use Rattle.decode.specs.Inner.Errors.{errors_at, removed}
use Rattle.decode.specs.Inner.Candidates.{SoundLane}
use Rattle.decode.proofs.NodeParts.{NodeParts, node_parts, sums_symbols, long_sums}
use Rattle.decode_listed.specs.Inner.Suspects.{suspects_of, AreLost, Suspects}
use Rattle.decode_listed.specs.Inner.Candidates.{LaneCandidate}
use Rattle.decode_listed.proofs.Suspected.{js_low, js_distinct, js_room, suspect_word}

-- what is known of the nodes, the lane and the errors, and that the lane without these is the candidate
pub record SuspectParts (h : Header) (lost ws sums nodes : List ℕ) : Type 0 where
  pub parts : NodeParts h ws sums nodes
  pub candidate : (array : List ℕ) → array ≡ padded 255 (removed (modulus_of h) nodes (errors_at h nodes sums) ws) → LaneCandidate h lost ws array

module _ (h : Header) (ws : List ℕ) (lane : SoundLane h ws) (lost : List ℕ) (are : AreLost h lost) (sums : List ℕ) (sums_are : sums ≡ padded 255 (check_sums h ws)) (nodes : List ℕ) (w : Suspects h lost sums nodes) where
  abbrev suspects : List ℕ
  suspects = suspects_of h lost (take (lost_radius h lost + 1) w.locator)

  known : NodeParts h ws sums suspects
  known =
      let symbols = sums_symbols h ws lane sums sums_are in
      let size = long_sums h ws lane sums sums_are w.few in
      node_parts h ws lane sums sums_are w.few suspects (js_low h lane.sound lost are sums symbols ws lane.long lane.below w.few sums_are size w.locator w.locates)
      (js_distinct h lane.sound lost are sums symbols ws lane.long lane.below w.few sums_are size w.locator w.locates)
      (js_room h lane.sound lost are sums symbols ws lane.long lane.below w.few sums_are size w.locator w.locates)

  pub suspect_parts : SuspectParts h lost ws sums nodes
  suspect_parts =
      rw w.listed
      record {
        parts = known;
        candidate = λ array is.
            record {
              word = removed (modulus_of h) suspects (errors_at h suspects sums) ws;
              array_is = is;
              long = known.word_long;
              below = known.word_below;
              only = λ us l b t.
                  suspect_word h lane.sound lost are sums (sums_symbols h ws lane sums sums_are) ws lane.long lane.below w.few sums_are (long_sums h ws lane sums sums_are w.few) w.locator w.locates us
                  (record { long = l; below = b; passes = t });
            };
      }
