-- The entries of a node of the plain layout are the weights by which the first k nodes give it.
use mathlib.Core.Path.{◌≡◌, refl, sym, ap, ◌∙◌}
use mathlib.Core.Bool.{Bool, true, false}
use mathlib.Core.List.{List}
use Prim.Native.Nat.{ℕ, ◌≤◌, ◌<◌}
use native.Mathlib.Nat.{zero-add}
use borrow.Author.Tests.{eq-eqb, ne_eqb}
use lib.Dec.{eqb}
use lib.ListN.{length, get_or, take}
use lib.Seq.{ext_get_or, get_or-take, length-take-le}
use Rattle.lists.specs.Choice.{pick}
use Rattle.lists.specs.Numbers.{all_below}
use Rattle.lists.specs.Rows.{from, range}
use Rattle.lists.proofs.Numbers.{at_below}
use Rattle.lists.proofs.Rows.{length_from, get_or_from}
use Rattle.algebra.proofs.Sums.{sum, sum_one}
use Rattle.algebra.proofs.Ring.{one-mul, zero-mul}
use Rattle.field.specs.Fields.{is_field, size_of}
use Rattle.field.specs.Symbols.{Symbol}
use Rattle.field.specs.Inner.Sums.{dot}
use Rattle.field.proofs.Symbols.{symbols, numbers_symbols, get_or_numbers, symbol_below}
use Rattle.field.proofs.FieldOf.{field_of, size_pos}
use Rattle.interpolation.proofs.Bridge.{dot_is}
use Rattle.generator.specs.declared.Header.{Header}
use Rattle.generator.specs.Records.{modulus_of, Sound}
use Rattle.generator.specs.Codewords.{node_of, encoding}
use Rattle.generator.proofs.PlainLayout.{first_nodes}
use Rattle.generator.proofs.Recovery.{some_message}
use Rattle.node_weights.specs.Inner.Weights.{Rebuilds}
use Rattle.blocks.proofs.Recovered.{lane_recovered}
use Rattle.plain_text.specs.Plain.{unit_message, plain_row, plain_entry}

-- symbol i of the unit message
unit_at : (k r i : ℕ) → i < k → get_or (unit_message k r) i 0 ≡ pick (eqb i r) 1 0
unfolding unit_message
unit_at k r i l = rw zero-add at (get_or_from {A = ℕ} (λ i. pick (eqb i r) 1 0) 0 k i 0 l)

length_unit : (k r : ℕ) → length (unit_message k r) ≡ k
unfolding unit_message
length_unit k r = length_from {A = ℕ} (λ i. pick (eqb i r) 1 0) 0 k

module _ (p : ℕ) (v : is_field p ≡ true) where
  -- 1 or 0 as a symbol
  digit : Bool → Symbol (size_of p)
  digit true = (field_of p v).1f
  digit false = (field_of p v).0f

  digit_number : (b : Bool) → pick b 1 0 ≡ (digit b).0
  unfolding digit
  digit_number true = refl
  digit_number false = refl

  digit_below : (b : Bool) → pick b 1 0 < size_of p
  digit_below b = rw (digit_number b) (symbol_below (size_of p) (digit b))

  unit_below : (k r : ℕ) → all_below (size_of p) (unit_message k r) ≡ true
  unit_below k r = at_below (size_of p) (unit_message k r) (λ i l. rw (unit_at k r i (rw length_unit at l)) (digit_below (eqb i r)))

  -- the sum of the weights times the unit message is weight r
  unit_sum : (k r : ℕ) (ws : List ℕ) → r < k → k ≤ length ws → all_below (size_of p) ws ≡ true → dot p (unit_message k r) ws ≡ get_or ws r 0
  unfolding digit
  unit_sum k r ws row fits below =
      let F = field_of p v in
      let pos = size_pos p v in
      let w : ℕ → Symbol (size_of p) = λ i. get_or (symbols (size_of p) pos ws) i F.0f in
      let w_number : (i : ℕ) → get_or ws i 0 ≡ (w i).0 = λ i. ap (λ (l : List ℕ). get_or l i 0) (sym (numbers_symbols (size_of p) pos ws below)) ∙ get_or_numbers (size_of p) pos (symbols (size_of p) pos ws) i in
      let term : ℕ → Symbol (size_of p) = λ i. F.mul (digit (eqb i r)) (w i) in
      let size_is = length_unit k r in
      dot_is p v (unit_message k r) ws (λ i. digit (eqb i r)) w (rw size_is fits) (λ i l. unit_at k r i (rw size_is at l) ∙ digit_number (eqb i r)) (λ i l. w_number i)
      ∙ ap (λ (n : ℕ). (sum F n term).0) size_is
      ∙ ap (λ (x : Symbol (size_of p)). x.0) (sum_one F k term r row (λ i l other. ap (λ (b : Bool). F.mul (digit b) (w i)) (ne_eqb i r other) ∙ zero-mul F (w i)) ∙ ap (λ (b : Bool). F.mul (digit b) (w r)) (eq-eqb r r refl) ∙ one-mul F (w r))
      ∙ sym (w_number r)

module _ (h : Header) (s : Sound h) (j : ℕ) (node : j < h.n) (ws : List ℕ) (long : h.k ≤ length ws) (weights : Rebuilds h (range 0 h.k) j ws) where
  -- the entry of symbol r is weight r
  pub entry_weight : (r : ℕ) → r < h.k → plain_entry h r j ≡ get_or ws r 0
  unfolding plain_entry plain_row encoding
  entry_weight r row =
      let p = modulus_of h in
      let nodes = range 0 h.k in
      let (ms, m, at) = some_message h s nodes (unit_message h.k r) (first_nodes h s) (length_unit h.k r) (unit_below p s.field h.k r) in
      ap (λ (us : List ℕ). get_or (from (node_of h us) 0 h.n) j 0) (lane_recovered h s nodes (first_nodes h s) (unit_message h.k r) ms m at)
      ∙ (rw zero-add at (get_or_from {A = ℕ} (node_of h ms) 0 h.n j 0 node))
      ∙ weights.gives ms m
      ∙ ap (λ (ys : List ℕ). dot p ys ws) at
      ∙ unit_sum p s.field h.k r ws row long weights.symbols

  -- the entries of the node are the first k weights
  pub entries_weights : from (λ r. plain_entry h r j) 0 h.k ≡ take h.k ws
  entries_weights =
      ext_get_or 0 (from (λ r. plain_entry h r j) 0 h.k) (take h.k ws) (length_from (λ r. plain_entry h r j) 0 h.k ∙ sym (length-take-le h.k ws long))
      (λ i l.
      let row : i < h.k = rw length_from at l in
      (rw zero-add at (get_or_from {A = ℕ} (λ r. plain_entry h r j) 0 h.k i 0 row)) ∙ entry_weight i row ∙ sym (get_or-take h.k ws i 0 row))
