-- Lanes, shares, updates, the code test and recovered messages as document 03 states them (specs/Blocks.antt and specs/Says.antt), and that ours, with shares row after row, are the same for every sound header whose n divides k·d, as document 03 asks.
-- Its text stands here but for the marks: what it has as `abbrev` is `unfoldable`. Its numbers 7 to 11 are quoted in FaultsAgreement, its records and generator in the crate `generator`, its arithmetic in the crate `field`;
-- its `when` and `all_below` are those of `lists`, the same recursions.
use mathlib.Core.Path.{◌≡◌, refl, sym, ap, ap₂, ◌∙◌}
use mathlib.Core.Logic.{◌↔◌}
use mathlib.Core.Bool.{true, false, not}
use mathlib.Core.List.{List, [], ◌∷◌, ◌++◌}
use Prim.Native.Nat.{ℕ, zero, suc, ◌+◌, ◌*◌, ◌%◌, ◌≤◌, ◌<◌}
use native.Mathlib.Nat.{zero-add, zero-mul, le_refl}
use native.Mathlib.Numerals.{add-one}
use native.Mathlib.Omega.{arith}
use borrow.Author.Tests.{eq-eqb, ne_eqb}
use lib.Dec.{eqb}
use lib.ListN.{length, get_or, set}
use Rattle.lists.specs.Choice.{pick, when}
use Rattle.lists.specs.Counting as Counting
use Rattle.lists.specs.Numbers.{all_below}
use Rattle.lists.specs.Rows.{from, rows_from}
use Rattle.lists.specs.Search.{first_false}
use Rattle.lists.proofs.All.{All}
use Rattle.lists.proofs.Cases.{by_test}
use Rattle.lists.proofs.Count.{count_move}
use Rattle.lists.proofs.Numbers.{below_at}
use Rattle.lists.proofs.Places.{below, All-below-of, All-below}
use Rattle.lists.proofs.Rows.{row_after}
use Rattle.layout.specs.Layout as Layout
use Rattle.layout.specs.Layout.{row_after_row, held}
use Rattle.layout.proofs.Lawful.{by_row}
use Rattle.layout.proofs.Buffers.{length_lane, get_or_lane, lane_symbols}
use Rattle.layout.proofs.Places.{place_by_row, held_by_row, buffer_by_row}
use Rattle.layout.proofs.Rewritten.{rewritten, rewritten_none, rewritten_row, rewritten_held, rewritten_all}
use Rattle.field.specs.Fields as F
use Rattle.field.proofs.Agreement.{size_of, add, sub, mul, size_of_agrees, add_agrees, sub_agrees, mul_agrees}
use Rattle.field.proofs.Bounds.{sub_below, mul_below}
use Rattle.generator.specs.declared.Header as Own
use Rattle.generator.specs.Records as R
use Rattle.generator.specs.Generator as G
use Rattle.generator.specs.Codewords as Codewords
use Rattle.generator.specs.Claims.{at_nodes}
use Rattle.generator.proofs.Bounds.{entry_below}
use Rattle.generator.proofs.RecordsAgreement.{Header, given}
use Rattle.generator.proofs.Agreement.{entry, node_of, is_word, entry_agrees, node_of_agrees, is_word_agrees, at_nodes_agrees}
use Rattle.generator.proofs.Agreement as C
use Rattle.blocks.specs.Blocks as Ours
use Rattle.blocks.proofs.Updates.{length_updated}

-- document 03's definitions: lanes and shares
unfoldable pub lane_from : ℕ → ℕ → ℕ → List ℕ → List ℕ
lane_from zero l t s = []
lane_from (suc n) l t s = get_or s t 0 ∷ lane_from n l (t + l) s

unfoldable pub lane_of : ℕ → ℕ → ℕ → List ℕ → List ℕ
lane_of rows l t s = lane_from rows l t s

unfoldable pub share_from : ℕ → ℕ → Header → ℕ → ℕ → List ℕ → List ℕ
share_from zero t h l j s = []
share_from (suc f) t h l j s = node_of h (lane_of h.k l t s) j ∷ share_from f (suc t) h l j s

unfoldable pub shares_from : ℕ → ℕ → Header → ℕ → List ℕ → List ℕ
shares_from zero j h l s = []
shares_from (suc f) j h l s = share_from l 0 h l j s ++ shares_from f (suc j) h l s

unfoldable pub shares_of : Header → ℕ → List ℕ → List ℕ
shares_of h l s = shares_from h.n 0 h l s

-- updates
unfoldable pub updated_from : ℕ → ℕ → Header → ℕ → ℕ → ℕ → ℕ → List ℕ → List ℕ
updated_from zero j h l r t x s = s
updated_from (suc f) j h l r t x s = updated_from f (suc j) h l r t x (set s (j * l + t) (add h.p (get_or s (j * l + t) 0) (mul h.p x (entry h r j))))

unfoldable pub updated : Header → ℕ → ℕ → ℕ → ℕ → ℕ → List ℕ → List ℕ
updated h l r t old new s = updated_from h.n 0 h l r t (sub h.p new old) s

unfoldable pub differ : List ℕ → List ℕ → ℕ
differ [] ys = 0
differ (x ∷ xs) [] = 0
differ (x ∷ xs) (y ∷ ys) = when (not (eqb x y)) 1 + differ xs ys

-- the code test
unfoldable pub wrong_from : ℕ → ℕ → Header → ℕ → List ℕ → ℕ
wrong_from zero t h l s = 0
wrong_from (suc f) t h l s = elim (is_word h (lane_of h.n l t s)) [ true ↦ wrong_from f (suc t) h l s | false ↦ suc t ]

-- recovered messages and rebuilt shares
unfoldable pub LanesAre : ℕ → Header → ℕ → List ℕ → List ℕ → List ℕ → Type 0
LanesAre zero h l js s m = zero ≡ zero
LanesAre (suc t) h l js s m = (C.at_nodes_lem h (lane_of h.k l t m) js ≡ lane_of h.k l t s) × LanesAre t h l js s m

unfoldable pub IsMessageFor : Header → ℕ → List ℕ → List ℕ → List ℕ → Type 0
IsMessageFor h l js s m = (length m ≡ h.k * l) × (all_below (size_of h.p) m ≡ true) × LanesAre l h l js s m

unfoldable pub target_from : ℕ → ℕ → Header → ℕ → ℕ → List ℕ → List ℕ
target_from zero t h l j m = []
target_from (suc f) t h l j m = node_of h (lane_of h.k l t m) j ∷ target_from f (suc t) h l j m

-- lanes, of every buffer
lane_from_agrees : (rows f i l t : ℕ) (s : List ℕ) → lane_from f l (i * l + t) s ≡ from (λ j. held row_after_row rows l s j t) i f
unfolding lane_from from held row_after_row
lane_from_agrees rows zero i l t s = refl
lane_from_agrees rows (suc f) i l t s =
    let next : i * l + t + l ≡ (i + 1) * l + t = omega (arith, row_after i l) in
    ap (λ (x : List ℕ). get_or s (i * l + t) 0 ∷ x) (ap (λ (x : ℕ). lane_from f l x s) next ∙ lane_from_agrees rows f (i + 1) l t s)

pub lane_of_agrees : (rows l t : ℕ) (s : List ℕ) → lane_of rows l t s ≡ Layout.lane_of row_after_row rows l t s
unfolding lane_of Layout.lane_of
lane_of_agrees rows l t s =
    let first : t ≡ 0 * l + t = omega (arith, zero-mul l) in
    ap (λ (x : ℕ). lane_from rows l x s) first ∙ lane_from_agrees rows rows 0 l t s

-- the places at which two lists of one length differ
pub differ_agrees : (xs ys : List ℕ) → length xs ≡ length ys → differ xs ys ≡ Counting.differ xs ys
unfolding differ Counting.differ Counting.count_from
differ_agrees [] ys e = refl
differ_agrees (x ∷ xs) [] e = absurd (omega arith)
differ_agrees (x ∷ xs) (y ∷ ys) e =
    ap (λ (c : ℕ). when (not (eqb x y)) 1 + c)
    (differ_agrees xs ys (omega arith) ∙ sym (simp add-one at (count_move (length xs) 0 1 (λ i. not (eqb (get_or (x ∷ xs) i 0) (get_or (y ∷ ys) i 0))))))

module _ (h : Own.Header) (sound : R.Sound h) (even : h.k * R.distance h % h.n ≡ 0) where
  -- the shares of a message buffer
  module _ (l : ℕ) (s : List ℕ) (long : length s ≡ h.k * l) (symbols : all_below (R.size h) s ≡ true) where
    -- what node j holds in lane t
    node_agrees : (t j : ℕ) → t < l → node_of (given h) (lane_of h.k l t s) j ≡ Codewords.node_of h (Layout.lane_of row_after_row h.k l t s) j
    node_agrees t j inside = rw (lane_of_agrees h.k l t s) (node_of_agrees h sound even (Layout.lane_of row_after_row h.k l t s) j (lane_symbols by_row h.k l (R.size h) t s inside long symbols))

    share_from_agrees : (f t j : ℕ) → t + f ≤ l → share_from f t (given h) l j s ≡ from (Ours.share_at h l s j) t f
    unfolding share_from from Ours.share_at
    share_from_agrees zero t j fits = refl
    share_from_agrees (suc f) t j fits = rw (add-one t) (ap₂ ◌∷◌ (node_agrees t j (omega arith)) (share_from_agrees f (suc t) j (omega arith)))

    pub share_of_agrees : (j : ℕ) → share_from l 0 (given h) l j s ≡ Ours.share_of h l s j
    unfolding Ours.share_of
    share_of_agrees j = share_from_agrees l 0 j (omega arith)

    shares_from_agrees : (f j : ℕ) → shares_from f j (given h) l s ≡ rows_from (Ours.share_of h l s) j f
    unfolding shares_from rows_from
    shares_from_agrees zero j = refl
    shares_from_agrees (suc f) j = rw (add-one j) (ap₂ ◌++◌ (share_of_agrees j) (shares_from_agrees f (suc j)))

    pub shares_of_agrees : shares_of (given h) l s ≡ Ours.shares_of row_after_row h l s
    unfolding shares_of Ours.shares_of Ours.share_of
    shares_of_agrees = shares_from_agrees h.n 0 ∙ sym (buffer_by_row h.n l (Ours.share_at h l s))

    -- a rebuilt share is the share
    target_share : (f t j : ℕ) → target_from f t (given h) l j s ≡ share_from f t (given h) l j s
    unfolding target_from share_from
    target_share zero t j = refl
    target_share (suc f) t j = ap (λ (x : List ℕ). node_of (given h) (lane_of h.k l t s) j ∷ x) (target_share f (suc t) j)

    pub target_from_agrees : (j : ℕ) → target_from l 0 (given h) l j s ≡ Ours.share_of h l s j
    target_from_agrees j = target_share l 0 j ∙ share_of_agrees j

  -- a symbol with a multiple of an entry added
  byte_agrees : (r j x b : ℕ) → x < R.size h → b < R.size h → add (R.modulus_of h) b (mul (R.modulus_of h) x (entry (given h) r j)) ≡ F.add (R.modulus_of h) b (F.mul (R.modulus_of h) x (G.entry h r j))
  byte_agrees r j x b low symbol =
      ap (add (R.modulus_of h) b) (mul_agrees (R.modulus_of h) x (entry (given h) r j) low ∙ ap (F.mul (R.modulus_of h) x) (entry_agrees h sound even r j))
      ∙ add_agrees (R.modulus_of h) b (F.mul (R.modulus_of h) x (G.entry h r j)) symbol (mul_below (R.modulus_of h) sound.field low (entry_below h sound r j))

  -- updates of a lane of symbols
  module _ (l r t : ℕ) (inside : t < l) (old new : ℕ) (s : List ℕ) (long : length s ≡ h.n * l) (old_symbol : old < R.size h) (new_symbol : new < R.size h) (symbols : all_below (R.size h) (Layout.lane_of row_after_row h.n l t s) ≡ true) where
    -- the difference, and what a node holds before
    abbrev x : ℕ
    x = F.sub (R.modulus_of h) new old

    held_symbol : (j : ℕ) → j < h.n → held row_after_row h.n l s j t < R.size h
    held_symbol j node = rw (get_or_lane row_after_row h.n l t s j node) at (below_at (R.size h) (Layout.lane_of row_after_row h.n l t s) symbols j (omega (arith, length_lane row_after_row h.n l t s)))

    -- the shares with the first j nodes of the lane rewritten
    abbrev after : ℕ → List ℕ
    after j = rewritten row_after_row h.n l t (Ours.added_at row_after_row h l r t x s) s j

    updated_from_agrees : (f j : ℕ) → j + f ≡ h.n → updated_from f j (given h) l r t x (after j) ≡ after h.n
    unfolding updated_from Ours.added_at
    updated_from_agrees zero j e = let end : j ≡ h.n = omega arith in ap after end
    updated_from_agrees (suc f) j e =
        let node : j < h.n = omega arith in
        let before : get_or (after j) (j * l + t) 0 ≡ held row_after_row h.n l s j t = sym (held_by_row h.n l (after j) j t) ∙ rewritten_held by_row h.n l t (Ours.added_at row_after_row h l r t x s) s inside j node in
        rw
        (before, byte_agrees r j x (held row_after_row h.n l s j t) (sub_below (R.modulus_of h) sound.field new_symbol old_symbol) (held_symbol j node), ← place_by_row h.n l j t, rewritten_row by_row h.n l t (Ours.added_at row_after_row h l r t x s) s inside j node _ refl, ← add-one j)
        (updated_from_agrees f (j + 1) (omega arith))

    pub updated_agrees : updated (given h) l r t old new s ≡ Ours.updated row_after_row h l r t old new s
    unfolding updated Ours.updated Ours.row_added
    updated_agrees =
        rw (sub_agrees (R.modulus_of h) new old new_symbol old_symbol)
        (ap (λ (u : List ℕ). updated_from h.n 0 (given h) l r t x u) (sym (rewritten_none by_row h.n l t (Ours.added_at row_after_row h l r t x s) s long))
        ∙ updated_from_agrees h.n 0 (omega arith)
        ∙ rewritten_all by_row h.n l t (Ours.added_at row_after_row h l r t x s) s h.n (le_refl h.n))

    -- and how many bytes differ afterwards
    pub altered_agrees : differ s (updated (given h) l r t old new s) ≡ Counting.differ s (Ours.updated row_after_row h l r t old new s)
    altered_agrees = rw updated_agrees (differ_agrees s (Ours.updated row_after_row h l r t old new s) (long ∙ sym (length_updated by_row h l r t old new s)))

  -- the code test of a full share buffer
  module _ (l : ℕ) (s : List ℕ) (long : length s ≡ h.n * l) (symbols : all_below (R.size h) s ≡ true) where
    word_agrees : (t : ℕ) → t < l → is_word (given h) (lane_of h.n l t s) ≡ Codewords.is_word h (Layout.lane_of row_after_row h.n l t s)
    word_agrees t inside = rw (lane_of_agrees h.n l t s) (is_word_agrees h sound even (Layout.lane_of row_after_row h.n l t s) (lane_symbols by_row h.n l (R.size h) t s inside long symbols))

    -- the first of f lanes from t on that is no word, or t + f
    abbrev wrong : ℕ → ℕ → ℕ
    wrong f t = first_false f t (λ i. Codewords.is_word h (Layout.lane_of row_after_row h.n l i s))

    wrong_from_lanes : (f t : ℕ) → t + f ≤ l → wrong_from f t (given h) l s ≡ pick (eqb (wrong f t) (t + f)) 0 (wrong f t + 1)
    unfolding wrong_from first_false
    wrong_from_lanes zero t fits = rw (eq-eqb t (t + 0) (omega arith))
    wrong_from_lanes (suc f) t fits =
        let end : t + suc f ≡ suc t + f = omega arith in
        by_test (Codewords.is_word h (Layout.lane_of row_after_row h.n l t s))
        (λ b. rw (word_agrees t (omega arith) ∙ b, wrong_from, b, add-one t, end) (wrong_from_lanes f (suc t) (omega arith)))
        (λ b. rw (word_agrees t (omega arith) ∙ b, wrong_from, b, add-one t, ne_eqb t (t + suc f) (λ q. omega arith)))

    -- its answer is the smallest wrong lane plus 1, or 0
    pub wrong_from_agrees : wrong_from l 0 (given h) l s ≡ pick (eqb (Ours.first_wrong row_after_row h l s) l) 0 (Ours.first_wrong row_after_row h l s + 1)
    unfolding Ours.first_wrong
    wrong_from_agrees = rw zero-add at (wrong_from_lanes l 0 (omega arith))

  -- the message that listed shares stand for
  module _ (l : ℕ) (js s m : List ℕ) where
    -- lane t of m is encoded to the shares' symbols
    abbrev Recovered : ℕ → Type 0
    Recovered t = at_nodes h (Layout.lane_of row_after_row h.k l t m) js ≡ Layout.lane_of row_after_row h.k l t s

    module _ (long : length m ≡ h.k * l) (symbols : all_below (R.size h) m ≡ true) where
      lane_agrees : (t : ℕ) → t < l → C.at_nodes_lem (given h) (lane_of h.k l t m) js ≡ at_nodes h (Layout.lane_of row_after_row h.k l t m) js
      lane_agrees t inside = rw (lane_of_agrees h.k l t m) (at_nodes_agrees h sound even (Layout.lane_of row_after_row h.k l t m) js (lane_symbols by_row h.k l (R.size h) t m inside long symbols))

      lanes_are_all : (f : ℕ) → f ≤ l → LanesAre f (given h) l js s m → All Recovered (below f)
      unfolding LanesAre
      lanes_are_all zero fits a = tt
      lanes_are_all (suc t) fits a = (sym (lane_agrees t (omega arith)) ∙ a.0 ∙ lane_of_agrees h.k l t s, lanes_are_all t (omega arith) a.1)

      all_lanes_are : (f : ℕ) → f ≤ l → All Recovered (below f) → LanesAre f (given h) l js s m
      unfolding LanesAre
      all_lanes_are zero fits a = refl
      all_lanes_are (suc t) fits a = (lane_agrees t (omega arith) ∙ a.0 ∙ sym (lane_of_agrees h.k l t s), all_lanes_are t (omega arith) a.1)

      pub lanes_are_agrees : LanesAre l (given h) l js s m ↔ ((t : ℕ) → t < l → Recovered t)
      lanes_are_agrees = (λ a. All-below Recovered l (lanes_are_all l (le_refl l) a), λ a. all_lanes_are l (le_refl l) (All-below-of Recovered l a))

    pub IsMessageFor-agrees : IsMessageFor (given h) l js s m ↔ Ours.MessageFor row_after_row h l js s m
    unfolding IsMessageFor
    IsMessageFor-agrees =
        let q = size_of_agrees (R.modulus_of h) in (
          λ a. let symbols = rw q at a.1 in record { size_is = a.0; symbols = symbols; lanes = (lanes_are_agrees a.0 symbols).0 a.2 },
          λ a. (a.size_is, rw q a.symbols, (lanes_are_agrees a.size_is a.symbols).1 a.lanes),
        )
