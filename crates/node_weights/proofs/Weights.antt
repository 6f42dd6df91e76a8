-- Sums of what listed nodes hold times weights, in the terms of the algebra.
use mathlib.Core.Path.{◌≡◌, sym, ap, ◌∙◌}
use mathlib.Core.Bool.{true}
use mathlib.Core.List.{List, map}
use Prim.Native.Nat.{ℕ, ◌-◌, ◌≤◌, ◌<◌}
use native.Mathlib.Omega.{arith}
use lib.ListN.{length, get_or, length-map}
use Rattle.lists.specs.Padded.{padded}
use Rattle.lists.specs.Numbers.{all_below}
use Rattle.lists.proofs.Numbers.{at_below}
use Rattle.lists.proofs.Padding.{length_padded, get_or_padded, drop_padded, below_padded}
use Rattle.algebra.proofs.Sums.{sum}
use Rattle.algebra.proofs.Nodes.{node}
use Rattle.field.specs.Symbols.{Symbol, numbers}
use Rattle.field.proofs.Symbols.{symbol_below, length_numbers, get_or_numbers}
use Rattle.field.proofs.FieldOf.{size_pos}
use Rattle.generator.specs.declared.Header.{Header}
use Rattle.generator.specs.Records.{modulus_of, size, Sound}
use Rattle.generator.specs.Shifts.{shifts}
use Rattle.generator.specs.Claims.{is_message, are_nodes, at_nodes}
use Rattle.generator.proofs.Sound.{field_for, root_for}
use Rattle.generator.proofs.Recovery.{nodes_places, lifted, lifted_numbers, length_lifted, message_size, message_below, held}
use Rattle.field.specs.Inner.Sums.{dot}
use Rattle.interpolation.specs.Inner.Points.{points_of}
use Rattle.interpolation.proofs.Points.{length_points}
use Rattle.interpolation.proofs.Bridge.{dot_is}
use Rattle.node_weights.specs.Inner.Weights.{WeightsFor}

module _ (h : Header) (s : Sound h) (js : List ℕ) (nodes : are_nodes h js ≡ true) where
  -- the nodes have k points
  pub size_points : length (points_of (modulus_of h) h.root 0 js) ≡ h.k
  size_points = length_points (modulus_of h) h.root 0 js ∙ (nodes_places h js nodes).size

  -- what the listed nodes hold, as symbols
  abbrev pub held_by : List ℕ → List (Symbol (size h))
  held_by ms = map (node (field_for h s) (root_for h s) (h.k - 1) (h.k - 1) (shifts h) (lifted h s ms)) js

  -- there are k of them
  length_held_by : (ms : List ℕ) → length (held_by ms) ≡ h.k
  length_held_by ms = length-map js (node (field_for h s) (root_for h s) (h.k - 1) (h.k - 1) (shifts h) (lifted h s ms)) ∙ (nodes_places h js nodes).size

  -- their numbers
  held_by_is : (ms : List ℕ) → is_message h ms ≡ true → at_nodes h ms js ≡ numbers (size h) (held_by ms)
  held_by_is ms m =
      ap (λ (l : List ℕ). at_nodes h l js) (sym (lifted_numbers h s ms (message_below h ms m)))
      ∙ held h s (lifted h s ms) js (length_lifted h s ms ∙ message_size h ms m)

  -- k weights that are the numbers of symbols w_0 .. w_(k−1)
  module _ (ws : List ℕ) (w : ℕ → Symbol (size h)) (long : length ws ≡ h.k) (at : (i : ℕ) → i < h.k → get_or ws i 0 ≡ (w i).0) where
    -- with zeros after them they are symbols
    weights_below : all_below (size h) (padded 255 ws) ≡ true
    weights_below =
        below_padded (size h) 255 ws (size_pos (modulus_of h) s.field)
        (at_below (size h) ws (λ i l. rw (at i (omega arith)) (symbol_below (size h) (w i))))

    -- and they give the sum of what is held times them
    weighted : h.k ≤ 255 → (ms : List ℕ) → is_message h ms ≡ true → dot (modulus_of h) (at_nodes h ms js) (padded 255 ws) ≡ (sum (field_for h s) h.k (λ i. (field_for h s).mul (get_or (held_by ms) i (field_for h s).0f) (w i))).0
    weighted fits ms m =
        let ly : length (numbers (size h) (held_by ms)) ≡ h.k = length_numbers (size h) (held_by ms) ∙ length_held_by ms in
        ap (λ (l : List ℕ). dot (modulus_of h) l (padded 255 ws)) (held_by_is ms m)
        ∙ dot_is (modulus_of h) s.field (numbers (size h) (held_by ms)) (padded 255 ws) (λ i. get_or (held_by ms) i (field_for h s).0f) w (omega (arith, length_padded 255 ws (omega arith)))
        (λ i l. get_or_numbers (size h) (size_pos (modulus_of h) s.field) (held_by ms) i)
        (λ i l. get_or_padded 255 ws i (omega arith) ∙ at i (omega arith))
        ∙ ap (λ (k : ℕ). (sum (field_for h s) k (λ i. (field_for h s).mul (get_or (held_by ms) i (field_for h s).0f) (w i))).0) ly

    -- so they are weights for every value that is this sum
    pub weights_for_lem : h.k ≤ 255 → (value : List ℕ → ℕ) → ((ms : List ℕ) → is_message h ms ≡ true → value (numbers (size h) (lifted h s ms)) ≡ (sum (field_for h s) h.k (λ i. (field_for h s).mul (get_or (held_by ms) i (field_for h s).0f) (w i))).0) → WeightsFor h js value (padded 255 ws)
    weights_for_lem fits value is =
        record {
          symbols = weights_below;
          rest = drop_padded 255 h.k ws long;
          gives = λ ms m. ap value (sym (lifted_numbers h s ms (message_below h ms m))) ∙ is ms m ∙ sym (weighted fits ms m);
        }
