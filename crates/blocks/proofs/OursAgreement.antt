-- What document 03 claims of every accepted plan (specs/Claims.antt, the record `Ours`), proved of its own definitions through the agreements: of every record that document 03 accepts, with updates in any number of lanes.
-- Its text stands here as it is. Its definitions are quoted in Agreement, and in the agreements of the crates `generator` and `field`.
use mathlib.Core.Path.{◌≡◌, sym, ap, ap₂, subst, ◌∙◌}
use mathlib.Core.Logic.{◌↔◌, ⊎_elim}
use mathlib.Core.Bool.{Bool, true, false, not}
use mathlib.Core.List.{List}
use Prim.Native.Nat.{ℕ, ◌+◌, ◌*◌, ◌%◌, ◌<◌}
use native.Mathlib.Nat.{div-add-mod}
use native.Mathlib.Omega.{arith}
use borrow.Author.Tests.{ltb-true, lt-ltb, eqb-false}
use lib.Dec.{eqb, ltb}
use lib.ListN.{length, get_or, set}
use Rattle.lists.specs.Counting as Counting
use Rattle.lists.specs.Numbers.{all_below}
use Rattle.lists.proofs.Rows.{length_from}
use Rattle.layout.specs.Layout.{row_after_row}
use Rattle.layout.specs.Layout as Layout
use Rattle.layout.proofs.Lawful.{by_row}
use Rattle.field.proofs.Agreement.{rest, size_of, rest_agrees, size_of_agrees}
use Rattle.generator.specs.declared.Header as Own
use Rattle.generator.specs.Records as R
use Rattle.generator.specs.Generator as G
use Rattle.generator.specs.Shifts as Shifts
use Rattle.generator.specs.Codewords as Codewords
use Rattle.generator.specs.Claims as Claims
use Rattle.generator.proofs.AcceptedBytes.{accepted_older}
use Rattle.generator.proofs.Changes.{set_message, message_symbol}
use Rattle.generator.proofs.Claims.{ours}
use Rattle.generator.proofs.Recovery.{message_below}
use Rattle.generator.proofs.RecordsAgreement.{Header, header_of, weight, record_fault, given, header_of_agrees, weight_agrees, given_sound}
use Rattle.generator.proofs.ShiftsAgreement.{shifts, shifts_agrees}
use Rattle.generator.proofs.Agreement.{entry, base_word, node_of, encoding, values_of, is_word, is_message, at_nodes_lem, are_nodes, depends_from, is_message_agrees, are_nodes_agrees, entry_agrees, base_word_agrees, node_of_agrees, at_nodes_agrees, encoding_agrees, values_of_agrees, is_word_agrees, reads_agrees}
use Rattle.blocks.specs.Blocks as Blocks
use Rattle.blocks.proofs.Agreement.{lane_of, updated, differ, lane_of_agrees, differ_agrees, updated_agrees, altered_agrees}
use Rattle.blocks.proofs.Updates.{updated_others, updated_encodes, updated_count}

-- document 03's claims
abbrev pub some_below : ℕ → ℕ → ℕ → Bool
some_below n d x = ltb (rest x n) d

pub record Ours (h : Header) : Type 0 where
  -- any k symbols on k nodes are of exactly one message
  pub some_message : (js ys : List ℕ) → are_nodes h js ≡ true → length ys ≡ h.k → all_below (size_of h.p) ys ≡ true → (ms : List ℕ) × (is_message h ms ≡ true) × (at_nodes_lem h ms js ≡ ys)
  pub one_message : (js ms us : List ℕ) → are_nodes h js ≡ true → is_message h ms ≡ true → is_message h us ≡ true → at_nodes_lem h ms js ≡ at_nodes_lem h us js → ms ≡ us
  -- words: values of polynomials of degree below k, encodings of messages
  pub words_poly : (ws : List ℕ) → length ws ≡ h.n → all_below (size_of h.p) ws ≡ true → (is_word h ws ≡ true) ↔ ((cs : List ℕ) × (length cs ≡ h.k) × (all_below (size_of h.p) cs ≡ true) × (values_of h cs ≡ ws))
  pub words_encode : (ws : List ℕ) → length ws ≡ h.n → all_below (size_of h.p) ws ≡ true → (is_word h ws ≡ true) ↔ ((ms : List ℕ) × (is_message h ms ≡ true) × (encoding h ms ≡ ws))
  -- entries are not zero exactly where (j + shift) modulo n lies below d
  pub row_weight : (r j : ℕ) → ltb r h.k ≡ true → ltb j h.n ≡ true → eqb (entry h r j) 0 ≡ not (some_below h.n (weight h) (j + get_or (shifts h) r 0))
  -- each change of one symbol alters exactly d nodes, each node depends on exactly b symbols
  pub alters : (ms : List ℕ) (r x : ℕ) → is_message h ms ≡ true → ltb r h.k ≡ true → ltb x (size_of h.p) ≡ true → eqb x (get_or ms r 0) ≡ false → differ (encoding h ms) (encoding h (set ms r x)) ≡ weight h
  pub depends : (j : ℕ) → ltb j h.n ≡ true → h.n * depends_from h.k 0 h j ≡ h.k * weight h
  -- a node depends on a symbol exactly where the entry is not zero
  pub depends_means : (r j : ℕ) → ltb r h.k ≡ true → ltb j h.n ≡ true → (eqb (entry h r j) 0 ≡ false) ↔ ((ms : List ℕ) × (z : ℕ) × (is_message h ms ≡ true) × (ltb z (size_of h.p) ≡ true) × (eqb (node_of h ms j) (node_of h (set ms r z) j) ≡ false))
  -- row r at j is the base word at (j + shift) modulo n; row 0 is the base word
  pub rows_base : (r j : ℕ) → ltb r h.k ≡ true → ltb j h.n ≡ true → entry h r j ≡ get_or (base_word h) (rest (j + get_or (shifts h) r 0) h.n) 0
  pub first_shift : get_or (shifts h) 0 0 ≡ 0
  -- an update of a lane that encodes a message with the old symbol
  pub updates : (ms s : List ℕ) (l r t new : ℕ) → is_message h ms ≡ true → ltb r h.k ≡ true → ltb t l ≡ true → ltb new (size_of h.p) ≡ true → length s ≡ h.n * l → lane_of h.n l t s ≡ encoding h ms → let u = updated h l r t (get_or ms r 0) new s in (lane_of h.n l t u ≡ encoding h (set ms r new)) × (differ s u ≡ differ (encoding h ms) (encoding h (set ms r new))) × ((q : ℕ) → ltb q l ≡ true → eqb q t ≡ false → lane_of h.n l q u ≡ lane_of h.n l q s)

module _ (h : Own.Header) (s : R.Sound h) (even : h.k * R.distance h % h.n ≡ 0) where
  abbrev O : Claims.Ours h
  O = ours h s

  -- its sizes, messages and nodes are ours
  below : (ys : List ℕ) → all_below (size_of (R.modulus_of h)) ys ≡ true → all_below (R.size h) ys ≡ true
  below ys b = rw (size_of_agrees (R.modulus_of h)) at b

  low : (x : ℕ) → ltb x (size_of (R.modulus_of h)) ≡ true → x < R.size h
  low x e = ltb-true x (R.size h) (rw (size_of_agrees (R.modulus_of h)) at e)

  message : (ms : List ℕ) → is_message (given h) ms ≡ true → Claims.is_message h ms ≡ true
  message ms m = sym (is_message_agrees h ms) ∙ m

  symbols : (ms : List ℕ) → is_message (given h) ms ≡ true → all_below (R.size h) ms ≡ true
  symbols ms m = message_below h ms (message ms m)

  nodes : (js : List ℕ) → are_nodes (given h) js ≡ true → Claims.are_nodes h js ≡ true
  nodes js e = sym (are_nodes_agrees h js) ∙ e

  some_message : (js ys : List ℕ) → are_nodes (given h) js ≡ true → length ys ≡ h.k → all_below (size_of (R.modulus_of h)) ys ≡ true → (ms : List ℕ) × (is_message (given h) ms ≡ true) × (at_nodes_lem (given h) ms js ≡ ys)
  some_message js ys are long b =
      let (ms, m, e) = O.some_message js ys (nodes js are) long (below ys b) in
      (ms, is_message_agrees h ms ∙ m, at_nodes_agrees h s even ms js (message_below h ms m) ∙ e)

  one_message : (js ms us : List ℕ) → are_nodes (given h) js ≡ true → is_message (given h) ms ≡ true → is_message (given h) us ≡ true → at_nodes_lem (given h) ms js ≡ at_nodes_lem (given h) us js → ms ≡ us
  one_message js ms us are m u e =
      O.one_message js ms us (nodes js are) (message ms m) (message us u) (sym (at_nodes_agrees h s even ms js (symbols ms m)) ∙ e ∙ at_nodes_agrees h s even us js (symbols us u))

  words_poly : (ws : List ℕ) → length ws ≡ h.n → all_below (size_of (R.modulus_of h)) ws ≡ true → (is_word (given h) ws ≡ true) ↔ ((cs : List ℕ) × (length cs ≡ h.k) × (all_below (size_of (R.modulus_of h)) cs ≡ true) × (values_of (given h) cs ≡ ws))
  words_poly ws long b =
      let same = is_word_agrees h s even ws (below ws b) in
      let iff = O.words_poly ws long (below ws b) in
      let q = size_of_agrees (R.modulus_of h) in (
        λ e. let (cs, count, bc, v) = iff.0 (sym same ∙ e) in (cs, count, rw q bc, values_of_agrees h s even cs bc ∙ v),
        λ (cs, count, bc, v). same ∙ iff.1 (cs, count, below cs bc, sym (values_of_agrees h s even cs (below cs bc)) ∙ v),
      )

  words_encode : (ws : List ℕ) → length ws ≡ h.n → all_below (size_of (R.modulus_of h)) ws ≡ true → (is_word (given h) ws ≡ true) ↔ ((ms : List ℕ) × (is_message (given h) ms ≡ true) × (encoding (given h) ms ≡ ws))
  words_encode ws long b =
      let same = is_word_agrees h s even ws (below ws b) in
      let iff = O.words_encode ws long (below ws b) in (
        λ e. let (ms, m, v) = iff.0 (sym same ∙ e) in (ms, is_message_agrees h ms ∙ m, encoding_agrees h s even ms (message_below h ms m) ∙ v),
        λ (ms, m, v). same ∙ iff.1 (ms, message ms m, sym (encoding_agrees h s even ms (symbols ms m)) ∙ v),
      )

  -- the place in the base word
  place : (r j : ℕ) → rest (j + get_or (shifts (given h)) r 0) h.n ≡ (j + get_or (Shifts.shifts h) r 0) % h.n
  place r j = rest_agrees (j + get_or (shifts (given h)) r 0) h.n ∙ ap (λ (l : List ℕ). (j + get_or l r 0) % h.n) (shifts_agrees h even)

  row_weight : (r j : ℕ) → ltb r h.k ≡ true → ltb j h.n ≡ true → eqb (entry (given h) r j) 0 ≡ not (some_below h.n (weight (given h)) (j + get_or (shifts (given h)) r 0))
  row_weight r j row node = rw (place r j, weight_agrees h, entry_agrees h s even r j) (O.row_weight r j (ltb-true r h.k row) (ltb-true j h.n node))

  -- two encodings differ at as many nodes as ours
  encodings_differ : (ms us : List ℕ) → is_message (given h) ms ≡ true → Claims.is_message h us ≡ true → differ (encoding (given h) ms) (encoding (given h) us) ≡ Counting.differ (Codewords.encoding h ms) (Codewords.encoding h us)
  unfolding Codewords.encoding
  encodings_differ ms us m u =
      ap₂ differ (encoding_agrees h s even ms (symbols ms m)) (encoding_agrees h s even us (message_below h us u))
      ∙ differ_agrees (Codewords.encoding h ms) (Codewords.encoding h us) (length_from (Codewords.node_of h ms) 0 h.n ∙ sym (length_from (Codewords.node_of h us) 0 h.n))

  alters : (ms : List ℕ) (r x : ℕ) → is_message (given h) ms ≡ true → ltb r h.k ≡ true → ltb x (size_of (R.modulus_of h)) ≡ true → eqb x (get_or ms r 0) ≡ false → differ (encoding (given h) ms) (encoding (given h) (set ms r x)) ≡ weight (given h)
  alters ms r x m row symbol other =
      encodings_differ ms (set ms r x) m (set_message h s ms r x (message ms m) (low x symbol))
      ∙ O.alters ms r x (message ms m) (ltb-true r h.k row) (low x symbol) (eqb-false x (get_or ms r 0) other)
      ∙ sym (weight_agrees h)

  -- the share of each node, where it is whole
  share : h.n * R.low_reads h ≡ h.k * R.distance h
  unfolding R.low_reads
  share = omega (arith, div-add-mod (h.k * R.distance h) h.n, even)

  depends : (j : ℕ) → ltb j h.n ≡ true → h.n * depends_from h.k 0 (given h) j ≡ h.k * weight (given h)
  depends j node =
      let same : Claims.reads h j ≡ R.low_reads h = ⊎_elim (λ e. e) (λ e. e ∙ sym (O.whole.1 even)) (O.depends j (ltb-true j h.n node)) in
      ap (λ (x : ℕ). h.n * x) (reads_agrees h s even j ∙ same) ∙ share ∙ ap (λ (x : ℕ). h.k * x) (sym (weight_agrees h))

  depends_means : (r j : ℕ) → ltb r h.k ≡ true → ltb j h.n ≡ true → (eqb (entry (given h) r j) 0 ≡ false) ↔ ((ms : List ℕ) × (z : ℕ) × (is_message (given h) ms ≡ true) × (ltb z (size_of (R.modulus_of h)) ≡ true) × (eqb (node_of (given h) ms j) (node_of (given h) (set ms r z) j) ≡ false))
  depends_means r j row node =
      let iff = O.depends_means r j (ltb-true r h.k row) (ltb-true j h.n node) in
      let held : (us : List ℕ) → Claims.is_message h us ≡ true → node_of (given h) us j ≡ Codewords.node_of h us j = λ us u. node_of_agrees h s even us j (message_below h us u) in
      let entries : eqb (entry (given h) r j) 0 ≡ eqb (G.entry h r j) 0 = ap (λ (x : ℕ). eqb x 0) (entry_agrees h s even r j) in
      let q = size_of_agrees (R.modulus_of h) in (
        λ e.
            let (ms, z, m, lz, d) = iff.0 (sym entries ∙ e) in
            (ms, z, is_message_agrees h ms ∙ m, rw q (lt-ltb z (R.size h) lz), ap₂ eqb (held ms m) (held (set ms r z) (set_message h s ms r z m lz)) ∙ d),
        λ (ms, z, m, lz, d).
            let u = set_message h s ms r z (message ms m) (low z lz) in
            entries ∙ iff.1 (ms, z, message ms m, low z lz, sym (ap₂ eqb (held ms (message ms m)) (held (set ms r z) u)) ∙ d),
      )

  rows_base : (r j : ℕ) → ltb r h.k ≡ true → ltb j h.n ≡ true → entry (given h) r j ≡ get_or (base_word (given h)) (rest (j + get_or (shifts (given h)) r 0) h.n) 0
  rows_base r j row node = rw (place r j, base_word_agrees h s even, entry_agrees h s even r j) (O.rows_base r j (ltb-true r h.k row) (ltb-true j h.n node))

  first_shift : get_or (shifts (given h)) 0 0 ≡ 0
  first_shift = ap (λ (l : List ℕ). get_or l 0 0) (shifts_agrees h even) ∙ O.first_shift

  module _ (ms shares : List ℕ) (l r t new : ℕ) (m : is_message (given h) ms ≡ true) (row : ltb r h.k ≡ true) (lane : ltb t l ≡ true) (symbol : ltb new (size_of (R.modulus_of h)) ≡ true) (long : length shares ≡ h.n * l) (encodes : lane_of h.n l t shares ≡ encoding (given h) ms) where
    abbrev old : ℕ
    old = get_or ms r 0

    inside : t < l
    inside = ltb-true t l lane

    -- the lane as ours
    encoded : Layout.lane_of row_after_row h.n l t shares ≡ Codewords.encoding h ms
    encoded = sym (lane_of_agrees h.n l t shares) ∙ encodes ∙ encoding_agrees h s even ms (symbols ms m)

    changed : Claims.is_message h (set ms r new) ≡ true
    changed = set_message h s ms r new (message ms m) (low new symbol)

    lane_below : all_below (R.size h) (Layout.lane_of row_after_row h.n l t shares) ≡ true
    lane_below = ap (all_below (R.size h)) encoded ∙ O.encodes_symbols ms (message ms m)

    -- the update is ours
    same : updated (given h) l r t old new shares ≡ Blocks.updated row_after_row h l r t old new shares
    same = updated_agrees h s even l r t inside old new shares long (message_symbol h s ms r (message ms m) (ltb-true r h.k row)) (low new symbol) lane_below

    lane_after : lane_of h.n l t (updated (given h) l r t old new shares) ≡ encoding (given h) (set ms r new)
    lane_after =
        ap (lane_of h.n l t) same ∙ lane_of_agrees h.n l t _
        ∙ updated_encodes by_row h s ms shares l r t new (message ms m) (ltb-true r h.k row) inside (low new symbol) long encoded
        ∙ sym (encoding_agrees h s even (set ms r new) (message_below h (set ms r new) changed))

    count_after : differ shares (updated (given h) l r t old new shares) ≡ differ (encoding (given h) ms) (encoding (given h) (set ms r new))
    count_after =
        altered_agrees h s even l r t inside old new shares long (message_symbol h s ms r (message ms m) (ltb-true r h.k row)) (low new symbol) lane_below
        ∙ updated_count by_row h s ms shares l r t new (message ms m) (ltb-true r h.k row) inside (low new symbol) long encoded
        ∙ sym (encodings_differ ms (set ms r new) m changed)

    others_after : (q : ℕ) → ltb q l ≡ true → eqb q t ≡ false → lane_of h.n l q (updated (given h) l r t old new shares) ≡ lane_of h.n l q shares
    others_after q other apart =
        ap (lane_of h.n l q) same ∙ lane_of_agrees h.n l q _
        ∙ updated_others by_row h l r t old new shares q (ltb-true q l other) (eqb-false q t apart)
        ∙ sym (lane_of_agrees h.n l q shares)

  ours_given : Ours (given h)
  ours_given =
      record {
        some_message = some_message;
        one_message = one_message;
        words_poly = words_poly;
        words_encode = words_encode;
        row_weight = row_weight;
        alters = alters;
        depends = depends;
        depends_means = depends_means;
        rows_base = rows_base;
        first_shift = first_shift;
        updates = λ ms shares l r t new m row lane symbol long encodes. (
          lane_after ms shares l r t new m row lane symbol long encodes,
          count_after ms shares l r t new m row lane symbol long encodes,
          others_after ms shares l r t new m row lane symbol long encodes,
        );
      }

-- so its claims hold of every record that it accepts
pub ours_holds : (rec : List ℕ) → record_fault rec ≡ 0 → Ours (header_of rec)
ours_holds rec e =
    let old = accepted_older rec e in
    let (sound, even) = given_sound rec old e in
    subst Ours (sym (header_of_agrees rec old)) (ours_given (R.header_of rec) sound even)
