-- Any k symbols on k nodes are of exactly one message.
use mathlib.Core.Path.{◌≡◌, refl, sym, ap, ◌∙◌}
use mathlib.Core.Bool.{true, ◌&&◌}
use mathlib.Core.List.{List, map}
use Prim.Native.Nat.{ℕ, ◌-◌}
use native.Mathlib.Nat.{le_of_eq}
use borrow.Author.Tests.{eqb-true, eq-eqb}
use lib.Dec.{eqb}
use lib.ListN.{length, length-map}
use Rattle.lists.specs.Numbers.{all_below, distinct}
use Rattle.std.proofs.lemmas.Bool.{and_from, and_parts}
use Rattle.lists.proofs.All.{ExactlyOne}
use Rattle.lists.proofs.Places.{Places}
use Rattle.lists.proofs.Numbers.{places}
use Rattle.algebra.proofs.ShiftedBasis.{Code}
use Rattle.algebra.proofs.Nodes.{node, any_nodes}
use Rattle.field.specs.Symbols.{Symbol, numbers}
use Rattle.field.proofs.Symbols.{symbols, numbers_symbols, numbers_below, numbers_path, length_numbers, length_symbols}
use Rattle.field.proofs.FieldOf.{size_pos}
use Rattle.generator.specs.declared.Header.{Header}
use Rattle.generator.specs.Records.{modulus_of, size, Sound}
use Rattle.generator.specs.Shifts.{shifts}
use Rattle.generator.specs.Claims.{is_message, are_nodes, at_nodes}
use Rattle.generator.proofs.Sound.{field_for, root_for, root_order, last_row}
use Rattle.generator.proofs.Shifts.{shifts_length, shifts_places}
use Rattle.generator.proofs.Bridge.{nodes_are}

-- the two parts of a message's test
pub message_size : (h : Header) (ms : List ℕ) → is_message h ms ≡ true → length ms ≡ h.k
unfolding is_message
message_size h ms e = eqb-true (length ms) h.k (and_parts _ (all_below (size h) ms) e).0

pub message_below : (h : Header) (ms : List ℕ) → is_message h ms ≡ true → all_below (size h) ms ≡ true
unfolding is_message
message_below h ms e = (and_parts (eqb (length ms) h.k) _ e).1

pub message_is : (h : Header) (ms : List ℕ) → length ms ≡ h.k → all_below (size h) ms ≡ true → is_message h ms ≡ true
unfolding is_message
message_is h ms l b = and_from _ _ (eq-eqb (length ms) h.k l) b

-- k different nodes are places
pub nodes_places : (h : Header) (js : List ℕ) → are_nodes h js ≡ true → Places h.n h.k js
unfolding are_nodes
nodes_places h js e =
    let rest : (all_below h.n js && distinct js) ≡ true = (and_parts (eqb (length js) h.k) _ e).1 in
    places h.n h.k js (eqb-true (length js) h.k (and_parts _ (all_below h.n js && distinct js) e).0) (and_parts _ (distinct js) rest).0 (and_parts (all_below h.n js) _ rest).1

module _ (h : Header) (s : Sound h) where
  pub shifts_are_places : Places h.n h.k (shifts h)
  shifts_are_places = shifts_places h.n h.k s.some s.fits

  -- the code of the header in the algebra's terms
  pub the_code : Code (field_for h s) (root_for h s) h.n h.k (h.k - 1) (shifts h)
  the_code = record { order = root_order h s; size = last_row h s; bound = s.fits; shifts = shifts_are_places }

  -- a list of numbers below the field's size as symbols
  abbrev pub lifted : List ℕ → List (Symbol (size h))
  lifted xs = symbols (size h) (size_pos (modulus_of h) s.field) xs

  pub lifted_numbers : (xs : List ℕ) → all_below (size h) xs ≡ true → numbers (size h) (lifted xs) ≡ xs
  lifted_numbers xs b = numbers_symbols (size h) (size_pos (modulus_of h) s.field) xs b

  pub length_lifted : (xs : List ℕ) → length (lifted xs) ≡ length xs
  length_lifted xs = length_symbols (size h) (size_pos (modulus_of h) s.field) xs

  -- the symbols of a list of numbers are a message
  pub numbers_message : (ms : List (Symbol (size h))) → length ms ≡ h.k → is_message h (numbers (size h) ms) ≡ true
  numbers_message ms l = message_is h (numbers (size h) ms) (length_numbers (size h) ms ∙ l) (numbers_below (size h) ms)

  -- what the nodes hold for k symbols
  pub held : (ms : List (Symbol (size h))) (js : List ℕ) → length ms ≡ h.k → at_nodes h (numbers (size h) ms) js ≡ numbers (size h) (map (node (field_for h s) (root_for h s) (h.k - 1) (h.k - 1) (shifts h) ms) js)
  held ms js l = nodes_are h s ms js (le_of_eq (l ∙ sym (shifts_length h.n h.k s.some s.fits)))

  -- the one message in the algebra's terms
  the_message : (js : List ℕ) (ys : List (Symbol (size h))) → Places h.n h.k js → length ys ≡ h.k → ExactlyOne (λ ms. (length ms ≡ h.k) × (map (node (field_for h s) (root_for h s) (h.k - 1) (h.k - 1) (shifts h) ms) js ≡ ys))
  the_message js ys p l =
      any_nodes (field_for h s) the_code (h.k - 1) js ys p l

  -- some message has the given symbols at the given nodes
  pub some_message : (js ys : List ℕ) → are_nodes h js ≡ true → length ys ≡ h.k → all_below (size h) ys ≡ true → (ms : List ℕ) × (is_message h ms ≡ true) × (at_nodes h ms js ≡ ys)
  some_message js ys p l b =
      let (ms, (size_is, at), unique) = the_message js (lifted ys) (nodes_places h js p) (length_lifted ys ∙ l) in
      (numbers (size h) ms, numbers_message ms size_is, held ms js size_is ∙ ap (numbers (size h)) at ∙ lifted_numbers ys b)

  -- and no other
  pub one_message : (js ms us : List ℕ) → are_nodes h js ≡ true → is_message h ms ≡ true → is_message h us ≡ true → at_nodes h ms js ≡ at_nodes h us js → ms ≡ us
  one_message js ms us p m u e =
      let F = node (field_for h s) (root_for h s) (h.k - 1) (h.k - 1) (shifts h) in
      let M = lifted ms in
      let U = lifted us in
      let lm : length M ≡ h.k = length_lifted ms ∙ message_size h ms m in
      let lu : length U ≡ h.k = length_lifted us ∙ message_size h us u in
      let nm : numbers (size h) M ≡ ms = lifted_numbers ms (message_below h ms m) in
      let nu : numbers (size h) U ≡ us = lifted_numbers us (message_below h us u) in
      let same : map (F M) js ≡ map (F U) js =
      numbers_path (size h) (size_pos (modulus_of h) s.field) (map (F M) js) (map (F U) js)
      (sym (held M js lm) ∙ ap (λ (x : List ℕ). at_nodes h x js) nm ∙ e ∙ ap (λ (x : List ℕ). at_nodes h x js) (sym nu) ∙ held U js lu) in
      let pl = nodes_places h js p in
      let (w, both, unique) = the_message js (map (F U) js) pl (length-map js (F U) ∙ pl.size) in
      sym nm ∙ ap (numbers (size h)) (unique M (lm, same) ∙ sym (unique U (lu, refl))) ∙ nu
