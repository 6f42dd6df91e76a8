-- What the candidate is made of, the nodes at which the locator vanishes and the errors there; and that it is what every near word must be.
use mathlib.Core.Path.{◌≡◌}
use mathlib.Core.List.{List}
use Prim.Native.Nat.{ℕ, ◌+◌}
use lib.ListN.{take}
use Rattle.lists.specs.Padded.{padded}
use Rattle.generator.specs.declared.Header.{Header}
use Rattle.generator.specs.Records.{modulus_of}
use Rattle.check_sums.specs.Inner.Sums.{check_sums}
use Rattle.nearest_word.specs.Nearest.{radius}
use Rattle.decode.specs.Inner.Errors.{roots_of, errors_at, removed}
use Rattle.decode.specs.Inner.Candidates.{SoundLane, WrongNodes, Candidate}
use Rattle.decode.proofs.RootNodes.{roots_low, roots_distinct}
use Rattle.decode.proofs.NodeParts.{NodeParts, node_parts, sums_symbols, long_sums}
use Rattle.decode.proofs.Found.{js_room, found_word}

-- what is known of the listed nodes, the lane and the errors, and that the lane without these is the candidate
pub record CandidateParts (h : Header) (ws sums nodes : List ℕ) : Type 0 where
  pub parts : NodeParts h ws sums nodes
  pub candidate : (array : List ℕ) → array ≡ padded 255 (removed (modulus_of h) nodes (errors_at h nodes sums) ws) → Candidate h ws array

module _ (h : Header) (ws : List ℕ) (lane : SoundLane h ws) (sums : List ℕ) (sums_are : sums ≡ padded 255 (check_sums h ws)) (nodes : List ℕ) (w : WrongNodes h sums nodes) where
  abbrev front : List ℕ
  front = take (radius h + 1) w.locator

  abbrev roots : List ℕ
  roots = roots_of (modulus_of h) h.root h.n front

  known : NodeParts h ws sums roots
  known =
      node_parts h ws lane sums sums_are w.few roots (roots_low (modulus_of h) h.root h.n front) (roots_distinct (modulus_of h) h.root h.n front)
      (js_room h lane.sound ws lane.long lane.below sums w.locator w.few sums_are (long_sums h ws lane sums sums_are w.few) (sums_symbols h ws lane sums sums_are) w.locates)

  pub candidate_parts : CandidateParts h ws sums nodes
  candidate_parts =
      rw w.listed
      record {
        parts = known;
        candidate = λ array is.
            record {
              word = removed (modulus_of h) roots (errors_at h roots sums) ws;
              array_is = is;
              long = known.word_long;
              below = known.word_below;
              only = λ us l b t.
                  found_word h lane.sound ws lane.long lane.below sums w.locator w.few sums_are (long_sums h ws lane sums sums_are w.few) (sums_symbols h ws lane sums sums_are) w.locates us
                  (record { long = l; below = b; passes = t });
            };
      }
