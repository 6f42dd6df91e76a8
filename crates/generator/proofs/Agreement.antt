-- The generator, encodings, words, messages and nodes as document 03 states them (specs/Plans.antt and specs/Claims.antt), and that ours are the same for every sound header whose n divides k·d, as document 03 asks.
-- Its text stands here but for the marks: what it has as `abbrev` is `unfoldable`. Its records and shifts are quoted in RecordsAgreement and ShiftsAgreement, its arithmetic in the crate `field`;
-- its `when`, `all_below`, `is_in` and `distinct` are those of `lists`, the same recursions.
use mathlib.Core.Path.{◌≡◌, refl, ap, ap₂, ◌∙◌}
use mathlib.Core.Bool.{Bool, true, ◌&&◌, not}
use mathlib.Core.List.{List, [], ◌∷◌}
use Prim.Native.Nat.{ℕ, zero, suc, ◌+◌, ◌-◌, ◌*◌, ◌%◌, ◌<◌}
use native.Mathlib.Numerals.{add-one}
use lib.Dec.{eqb}
use lib.ListN.{length, get_or}
use Rattle.lists.specs.Choice.{when}
use Rattle.lists.specs.Counting.{count_from}
use Rattle.lists.specs.Numbers.{all_below, distinct}
use Rattle.lists.specs.Rows.{from}
use Rattle.lists.proofs.Numbers.{below_cons}
use Rattle.field.specs.Fields as F
use Rattle.field.proofs.Bounds.{sub_below, mul_below, power_below}
use Rattle.field.proofs.Agreement.{rest, size_of, add, sub, mul, power, rest_agrees, size_of_agrees, add_agrees, sub_agrees, mul_agrees, power_agrees}
use Rattle.generator.specs.declared.Header as Own
use Rattle.generator.specs.Records as R
use Rattle.generator.specs.Shifts as S
use Rattle.generator.specs.Generator as G
use Rattle.generator.specs.Codewords as C
use Rattle.generator.specs.Claims as Ours
use Rattle.generator.proofs.Bounds.{entry_below, node_from_below, poly_at_below, check_from_below}
use Rattle.generator.proofs.RecordsAgreement.{Header, given, weight, weight_agrees}
use Rattle.generator.proofs.ShiftsAgreement.{shifts, shifts_agrees}

-- document 03's definitions: the generator
unfoldable pub value_from : ℕ → Header → ℕ → ℕ
value_from zero h x = 1
value_from (suc i) h x = mul h.p (sub h.p x (power h.p h.root i)) (value_from i h x)

unfoldable pub value_at : Header → ℕ → ℕ
value_at h x = value_from (h.k - 1) h x

unfoldable pub entry_at : Header → ℕ → ℕ → ℕ
entry_at h s j = value_at h (power h.p h.root (rest (j + s + (h.n - weight h)) h.n))

unfoldable pub entry : Header → ℕ → ℕ → ℕ
entry h r j = entry_at h (get_or (shifts h) r 0) j

unfoldable pub word_from : ℕ → ℕ → Header → ℕ → List ℕ
word_from zero j h s = []
word_from (suc f) j h s = entry_at h s j ∷ word_from f (suc j) h s

unfoldable pub base_word : Header → List ℕ
base_word h = word_from h.n 0 h 0

-- encodings
unfoldable pub sum_from : ℕ → Header → List ℕ → ℕ → ℕ
sum_from r h [] j = 0
sum_from r h (m ∷ ms) j = add h.p (mul h.p m (entry h r j)) (sum_from (suc r) h ms j)

unfoldable pub node_of : Header → List ℕ → ℕ → ℕ
node_of h ms j = sum_from 0 h ms j

unfoldable pub nodes_from : ℕ → ℕ → Header → List ℕ → List ℕ
nodes_from zero j h ms = []
nodes_from (suc f) j h ms = node_of h ms j ∷ nodes_from f (suc j) h ms

unfoldable pub encoding : Header → List ℕ → List ℕ
encoding h ms = nodes_from h.n 0 h ms

-- words of the code
unfoldable pub poly_at : ℕ → List ℕ → ℕ → ℕ
poly_at p [] x = 0
poly_at p (c ∷ cs) x = add p c (mul p x (poly_at p cs x))

unfoldable pub values_from : ℕ → ℕ → Header → List ℕ → List ℕ
values_from zero j h cs = []
values_from (suc f) j h cs = poly_at h.p cs (power h.p h.root j) ∷ values_from f (suc j) h cs

unfoldable pub values_of : Header → List ℕ → List ℕ
values_of h cs = values_from h.n 0 h cs

unfoldable pub check_from : Header → ℕ → ℕ → List ℕ → ℕ
check_from h e j [] = 0
check_from h e j (w ∷ ws) = add h.p (mul h.p w (power h.p h.root (rest (j * e) h.n))) (check_from h e (suc j) ws)

unfoldable pub checks_from : ℕ → Header → List ℕ → Bool
checks_from zero h ws = true
checks_from (suc e) h ws = eqb (check_from h (suc e) 0 ws) 0 && checks_from e h ws

unfoldable pub is_word : Header → List ℕ → Bool
is_word h ws = checks_from (h.n - h.k) h ws

-- messages and nodes
unfoldable pub is_message : Header → List ℕ → Bool
is_message h ms = eqb (length ms) h.k && all_below (size_of h.p) ms

unfoldable pub at_nodes_lem : Header → List ℕ → List ℕ → List ℕ
at_nodes_lem h ms [] = []
at_nodes_lem h ms (j ∷ js) = node_of h ms j ∷ at_nodes_lem h ms js

unfoldable pub are_nodes : Header → List ℕ → Bool
are_nodes h js = eqb (length js) h.k && (all_below h.n js && distinct js)

unfoldable pub depends_from : ℕ → ℕ → Header → ℕ → ℕ
depends_from zero r h j = 0
depends_from (suc f) r h j = when (not (eqb (entry h r j) 0)) 1 + depends_from f (suc r) h j

-- messages and lists of nodes, for every header
pub is_message_agrees : (h : Own.Header) (ms : List ℕ) → is_message (given h) ms ≡ Ours.is_message h ms
unfolding is_message Ours.is_message
is_message_agrees h ms = rw (size_of_agrees (R.modulus_of h))

pub are_nodes_agrees : (h : Own.Header) (js : List ℕ) → are_nodes (given h) js ≡ Ours.are_nodes h js
unfolding are_nodes Ours.are_nodes
are_nodes_agrees h js = refl

-- the value of a polynomial, over every field
pub poly_at_agrees : (p : ℕ) → F.is_field p ≡ true → (cs : List ℕ) (x : ℕ) → all_below (F.size_of p) cs ≡ true → x < F.size_of p → poly_at p cs x ≡ C.poly_at p cs x
unfolding poly_at C.poly_at
poly_at_agrees p v [] x b low = refl
poly_at_agrees p v (c ∷ cs) x b low =
    let (first, others) = below_cons (F.size_of p) c cs b in
    ap (add p c) (mul_agrees p x (poly_at p cs x) low ∙ ap (F.mul p x) (poly_at_agrees p v cs x others low))
    ∙ add_agrees p c (F.mul p x (C.poly_at p cs x)) first (mul_below p v low (poly_at_below p v cs x others low))

module _ (h : Own.Header) (s : R.Sound h) (even : h.k * R.distance h % h.n ≡ 0) where
  -- powers of the root
  root_power_lem : (e : ℕ) → power (R.modulus_of h) h.root e ≡ F.power (R.modulus_of h) h.root e
  root_power_lem e = power_agrees (R.modulus_of h) h.root e s.root_below

  root_power_below : (e : ℕ) → F.power (R.modulus_of h) h.root e < R.size h
  root_power_below e = power_below (R.modulus_of h) s.field e s.root_below

  -- the base polynomial
  value_from_agrees : (i : ℕ) {x : ℕ} → x < R.size h → value_from i (given h) x ≡ G.base_from i h x
  unfolding value_from G.base_from
  value_from_agrees zero low = refl
  value_from_agrees (suc i) {x} low =
      ap₂ (mul (R.modulus_of h))
      (ap (sub (R.modulus_of h) x) (root_power_lem i) ∙ sub_agrees (R.modulus_of h) x (F.power (R.modulus_of h) h.root i) low (root_power_below i))
      (value_from_agrees i low)
      ∙ mul_agrees (R.modulus_of h) (F.sub (R.modulus_of h) x (F.power (R.modulus_of h) h.root i)) (G.base_from i h x) (sub_below (R.modulus_of h) s.field low (root_power_below i))

  -- entries
  pub entry_at_agrees : (t j : ℕ) → entry_at (given h) t j ≡ G.entry_at h t j
  unfolding entry_at value_at G.entry_at G.base_at
  entry_at_agrees t j =
      rw (weight_agrees h, rest_agrees (j + t + (h.n - R.distance h)) h.n, root_power_lem ((j + t + (h.n - R.distance h)) % h.n))
      (value_from_agrees (h.k - 1) (root_power_below ((j + t + (h.n - R.distance h)) % h.n)))

  pub entry_agrees : (r j : ℕ) → entry (given h) r j ≡ G.entry h r j
  unfolding entry G.entry
  entry_agrees r j = rw (shifts_agrees h even) (entry_at_agrees (get_or (S.shifts h) r 0) j)

  word_from_agrees : (f j t : ℕ) → word_from f j (given h) t ≡ from (G.entry_at h t) j f
  unfolding word_from from
  word_from_agrees zero j t = refl
  word_from_agrees (suc f) j t = rw (add-one j) (ap₂ ◌∷◌ (entry_at_agrees t j) (word_from_agrees f (suc j) t))

  pub base_word_agrees : base_word (given h) ≡ G.base_word h
  unfolding base_word G.base_word
  base_word_agrees = word_from_agrees h.n 0 0

  -- a product of symbols and a sum after it
  sum_agrees : (a b c : ℕ) → a < R.size h → b < R.size h → c < R.size h → add (R.modulus_of h) (mul (R.modulus_of h) a b) c ≡ F.add (R.modulus_of h) (F.mul (R.modulus_of h) a b) c
  sum_agrees a b c la lb lc =
      ap (λ (x : ℕ). add (R.modulus_of h) x c) (mul_agrees (R.modulus_of h) a b la)
      ∙ add_agrees (R.modulus_of h) (F.mul (R.modulus_of h) a b) c (mul_below (R.modulus_of h) s.field la lb) lc

  -- what a node holds for symbols
  sum_from_agrees : (r : ℕ) (ms : List ℕ) (j : ℕ) → all_below (R.size h) ms ≡ true → sum_from r (given h) ms j ≡ C.node_from r h ms j
  unfolding sum_from C.node_from
  sum_from_agrees r [] j b = refl
  sum_from_agrees r (m ∷ ms) j b =
      let (low, others) = below_cons (R.size h) m ms b in
      rw (add-one r, entry_agrees r j, sum_from_agrees (suc r) ms j others)
      (sum_agrees m (G.entry h r j) (C.node_from (suc r) h ms j) low (entry_below h s r j) (node_from_below h s (suc r) ms j others))

  pub node_of_agrees : (ms : List ℕ) (j : ℕ) → all_below (R.size h) ms ≡ true → node_of (given h) ms j ≡ C.node_of h ms j
  unfolding node_of C.node_of
  node_of_agrees ms j b = sum_from_agrees 0 ms j b

  pub at_nodes_agrees : (ms js : List ℕ) → all_below (R.size h) ms ≡ true → at_nodes_lem (given h) ms js ≡ Ours.at_nodes h ms js
  unfolding at_nodes_lem
  at_nodes_agrees ms [] b = refl
  at_nodes_agrees ms (j ∷ js) b = ap₂ ◌∷◌ (node_of_agrees ms j b) (at_nodes_agrees ms js b)

  nodes_from_agrees : (f j : ℕ) (ms : List ℕ) → all_below (R.size h) ms ≡ true → nodes_from f j (given h) ms ≡ from (C.node_of h ms) j f
  unfolding nodes_from from
  nodes_from_agrees zero j ms b = refl
  nodes_from_agrees (suc f) j ms b = rw (add-one j) (ap₂ ◌∷◌ (node_of_agrees ms j b) (nodes_from_agrees f (suc j) ms b))

  pub encoding_agrees : (ms : List ℕ) → all_below (R.size h) ms ≡ true → encoding (given h) ms ≡ C.encoding h ms
  unfolding encoding C.encoding
  encoding_agrees ms b = nodes_from_agrees h.n 0 ms b

  -- values of a polynomial at the powers of the root
  values_from_agrees : (f j : ℕ) (cs : List ℕ) → all_below (R.size h) cs ≡ true → values_from f j (given h) cs ≡ from (λ i. C.poly_at (R.modulus_of h) cs (F.power (R.modulus_of h) h.root i)) j f
  unfolding values_from from
  values_from_agrees zero j cs b = refl
  values_from_agrees (suc f) j cs b =
      rw (add-one j, root_power_lem j)
      (ap₂ ◌∷◌ (poly_at_agrees (R.modulus_of h) s.field cs (F.power (R.modulus_of h) h.root j) b (root_power_below j)) (values_from_agrees f (suc j) cs b))

  pub values_of_agrees : (cs : List ℕ) → all_below (R.size h) cs ≡ true → values_of (given h) cs ≡ C.values_of h cs
  unfolding values_of C.values_of
  values_of_agrees cs b = values_from_agrees h.n 0 cs b

  -- check sums of symbols
  pub check_from_agrees : (e j : ℕ) (ws : List ℕ) → all_below (R.size h) ws ≡ true → check_from (given h) e j ws ≡ C.check_from h e j ws
  unfolding check_from C.check_from
  check_from_agrees e j [] b = refl
  check_from_agrees e j (w ∷ ws) b =
      let (low, others) = below_cons (R.size h) w ws b in
      rw (add-one j, rest_agrees (j * e) h.n, root_power_lem (j * e % h.n), check_from_agrees e (suc j) ws others)
      (sum_agrees w (F.power (R.modulus_of h) h.root (j * e % h.n)) (C.check_from h e (suc j) ws) low (root_power_below (j * e % h.n)) (check_from_below h s e (suc j) ws others))

  checks_from_agrees : (e : ℕ) (ws : List ℕ) → all_below (R.size h) ws ≡ true → checks_from e (given h) ws ≡ C.checks_from e h ws
  unfolding checks_from C.checks_from
  checks_from_agrees zero ws b = refl
  checks_from_agrees (suc e) ws b = ap₂ (λ (c : ℕ) (t : Bool). eqb c 0 && t) (check_from_agrees (suc e) 0 ws b) (checks_from_agrees e ws b)

  pub is_word_agrees : (ws : List ℕ) → all_below (R.size h) ws ≡ true → is_word (given h) ws ≡ C.is_word h ws
  unfolding is_word C.is_word
  is_word_agrees ws b = checks_from_agrees (h.n - h.k) ws b

  -- how many symbols a node depends on
  depends_from_agrees : (f r j : ℕ) → depends_from f r (given h) j ≡ count_from f r (λ i. not (eqb (G.entry h i j) 0))
  unfolding depends_from count_from
  depends_from_agrees zero r j = refl
  depends_from_agrees (suc f) r j = rw (add-one r, entry_agrees r j, depends_from_agrees f (suc r) j)

  pub reads_agrees : (j : ℕ) → depends_from h.k 0 (given h) j ≡ Ours.reads h j
  unfolding Ours.reads
  reads_agrees j = depends_from_agrees h.k 0 j
