-- Shares rearranged: the same lanes are set right, and as many symbols are altered.
use mathlib.Core.Path.{◌≡◌, sym, ap, ap₂, ◌∙◌}
use mathlib.Core.Bool.{not}
use mathlib.Core.List.{List}
use Prim.Native.Nat.{ℕ, ◌*◌, ◌<◌}
use native.Mathlib.Nat.{zero-add}
use native.Mathlib.Omega.{arith}
use lib.Dec.{eqb}
use lib.ListN.{length, get_or}
use Rattle.lists.specs.Counting.{count_from, differ}
use Rattle.lists.proofs.Along.{Apart, count_along}
use Rattle.lists.proofs.Count.{count_ext}
use Rattle.lists.proofs.Differ.{unlike}
use Rattle.lists.proofs.Rows.{get_or_from}
use Rattle.lists.proofs.Search.{search_ext}
use Rattle.layout.specs.Layout.{Arrangement, held, lane_of, buffer, rearranged}
use Rattle.layout.proofs.Lawful.{Lawful}
use Rattle.layout.proofs.Buffers.{length_buffer, held_buffer, buffer_ext, rearranged_lane}
use Rattle.generator.specs.declared.Header.{Header}
use Rattle.nearest_word.specs.Nearest.{has_near, corrected}
use Rattle.correct.specs.Blocks.{corrected_shares, first_far}

module _ {y z : Arrangement} (a : Lawful y) (b : Lawful z) (rows l : ℕ) where
  -- the place in a buffer arranged as y of what stands at x in one arranged as z
  abbrev from_place : ℕ → ℕ
  from_place x = (y rows l).place ((z rows l).row x) ((z rows l).lane x)

  get_or_rearranged : (s : List ℕ) (x : ℕ) → x < rows * l → get_or (rearranged y z rows l s) x 0 ≡ get_or s (from_place x) 0
  unfolding rearranged buffer held
  get_or_rearranged s x low = get_or_from (λ x. get_or s (from_place x) 0) 0 (rows * l) x 0 low ∙ ap (λ (p : ℕ). get_or s (from_place p) 0) (zero-add x)

  -- every place is one of them, once
  apart : Apart (rows * l) (rows * l) from_place
  apart =
      record {
        low = λ x h. let (row, lane, at) = b.covers rows l x h in a.inside rows l _ _ row lane;
        differ = λ x u hx hu e.
            let (row, lane, at) = b.covers rows l x hx in
            let (row', lane', at') = b.covers rows l u hu in
            let same_row : (z rows l).row x ≡ (z rows l).row u = sym (a.row_back rows l _ _ row lane) ∙ ap (y rows l).row e ∙ a.row_back rows l _ _ row' lane' in
            let same_lane : (z rows l).lane x ≡ (z rows l).lane u = sym (a.lane_back rows l _ _ row lane) ∙ ap (y rows l).lane e ∙ a.lane_back rows l _ _ row' lane' in
            sym at ∙ ap₂ (z rows l).place same_row same_lane ∙ at';
      }

  covered : (x : ℕ) → x < rows * l → (i : ℕ) × (i < rows * l) × (from_place i ≡ x)
  covered x h =
      let (row, lane, at) = a.covers rows l x h in
      let r = (y rows l).row x in
      let t = (y rows l).lane x in
      ((z rows l).place r t, b.inside rows l r t row lane, ap₂ (y rows l).place (b.row_back rows l r t row lane) (b.lane_back rows l r t row lane) ∙ at)

  length_turned : (s : List ℕ) → length (rearranged y z rows l s) ≡ rows * l
  unfolding rearranged
  length_turned s = length_buffer z rows l (held y rows l s)

  -- two buffers differ at as many places
  pub differ_turned : (s u : List ℕ) → length s ≡ rows * l → differ (rearranged y z rows l s) (rearranged y z rows l u) ≡ differ s u
  unfolding differ
  differ_turned s u long =
      ap (λ (m : ℕ). count_from m 0 (unlike (rearranged y z rows l s) (rearranged y z rows l u))) (length_turned s)
      ∙ count_ext (rows * l) 0 _ (λ x. unlike s u (from_place x)) (λ x low high. ap₂ (λ (v w : ℕ). not (eqb v w)) (get_or_rearranged s x (omega arith)) (get_or_rearranged u x (omega arith)))
      ∙ sym (count_along (rows * l) (rows * l) from_place (unlike s u) apart (λ x low e. covered x low))
      ∙ ap (λ (m : ℕ). count_from m 0 (unlike s u)) (sym long)

module _ {y z : Arrangement} (a : Lawful y) (b : Lawful z) (h : Header) (l : ℕ) (s : List ℕ) where
  abbrev turned : List ℕ
  turned = rearranged y z h.n l s

  -- the first lane that is too far
  pub far_turned : first_far z h l turned ≡ first_far y h l s
  unfolding first_far
  far_turned = search_ext l 0 _ _ (λ t low high. ap (has_near h) (rearranged_lane a b h.n l s t (omega arith)))

  -- the shares set right
  pub corrected_turned : corrected_shares z h l turned ≡ rearranged y z h.n l (corrected_shares y h l s)
  unfolding corrected_shares rearranged
  corrected_turned =
      let f : ℕ → ℕ → ℕ = λ j t. get_or (corrected h (lane_of y h.n l t s)) j 0 in
      buffer_ext b h.n l _ _
      (λ j t node lane.
      ap (λ (ws : List ℕ). get_or (corrected h ws) j 0) (rearranged_lane a b h.n l s t lane) ∙ sym (held_buffer a h.n l f j t node lane))

  -- and how many symbols differ
  pub count_turned : length s ≡ h.n * l → differ turned (corrected_shares z h l turned) ≡ differ s (corrected_shares y h l s)
  count_turned long = ap (differ turned) corrected_turned ∙ differ_turned a b h.n l s (corrected_shares y h l s) long
