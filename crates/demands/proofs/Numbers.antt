-- The numbers of each call: what turns it away is the lowest number of its table that is met.
use mathlib.Core.Path.{◌≡◌, refl, ap}
use mathlib.Core.Logic.{◌⊎◌, ◌↔◌, ◌≢◌}
use mathlib.Core.Bool.{true, false, not}
use mathlib.Core.List.{List, ◌++◌}
use Prim.Native.Nat.{ℕ, ◌+◌, ◌*◌, ◌^◌, ◌≤◌, ◌<◌}
use borrow.Author.Tests.{eqb-false, ne_eqb, not-true}
use lib.Dec.{eqb, ltb}
use lib.ListN.{length}
use Rattle.lists.proofs.Cases.{by_test}
use Rattle.layout.specs.Layout.{share_layout}
use Rattle.layout.specs.Width.{symbols_of}
use Rattle.layout.proofs.Buffers.{length_lane}
use Rattle.layout.proofs.Places.{share_lawful}
use Rattle.generator.specs.declared.Header.{Header}
use Rattle.generator.specs.Records.{header_of, record_fault, size, width, Sound}
use Rattle.refusals.specs.Conditions.{lanes_bad, length_bad, number_bad, nodes_bad, twice_bad, symbol_bad, symbols_bad, lane_bad}
use Rattle.refusals.specs.Faults.{stale_fault, list_fault, fault_of}
use Rattle.rearrange.specs.Promise.{rearrange_fault}
use Rattle.differences.specs.Promise.{differences_fault, add_fault}
use Rattle.belongs.specs.Promise.{belongs_fault}
use Rattle.recover.specs.Promise.{recover_fault, rebuild_fault}
use Rattle.update.specs.Promise.{input_fault, update_fault}
use Rattle.encode.specs.Promise.{encode_fault}
use Rattle.update.proofs.Accepts.{input_accepts}
use Rattle.belongs.proofs.Accepts.{belongs_accepts}
use Rattle.nearest_word.specs.Nearest.{has_near}
use Rattle.correct.specs.Blocks.{far_bad}
use Rattle.correct.specs.Promise.{correct_fault}
use Rattle.correct.specs.Meaning.{NearWord, lane_in}
use Rattle.correct.proofs.Meaning.{has_near_lem, none_near, one_far, far_not}
use Rattle.correct_listed.specs.Blocks.{far_listed_bad}
use Rattle.correct_listed.specs.Promise.{count_bad, listed_fault, correct_listed_fault}
use Rattle.find_update.specs.Promise.{find_fault}
use Rattle.mends.specs.Promise.{mends_fault}
use Rattle.weight_counts.specs.Weights.{messages_bad, weights_fault}
use Rattle.demands.specs.Judging.{Table}
use Rattle.demands.specs.Numbers.{SomeFrom, SomeTwice, record_numbers, OtherLanes, OtherSymbols, encode_numbers, given_numbers, stale_numbers, update_numbers, recover_numbers, rebuild_numbers, belongs_numbers, correct_numbers, listed_numbers, correct_listed_numbers, rearrange_numbers, differences_numbers, add_numbers, find_numbers, mends_numbers, weights_numbers}
use Rattle.demands.proofs.Judging.{Tells, all_from, line, last, then}
use Rattle.demands.proofs.Conditions.{equal_test, other_test, less_test, most_test, or_test, some_from, some_twice}
use Rattle.demands.proofs.RecordNumbers.{after_record}
use Rattle.demands.proofs.Updates.{stale_tells}
use Rattle.demands.proofs.ListedLanes.{far_listed_means}

-- the tests of the numbers that several calls share
pub lanes_means : (l : ℕ) → (lanes_bad l ≡ true) ↔ OtherLanes l
unfolding lanes_bad
lanes_means l = or_test (eqb l 0) (ltb 4096 l) (equal_test l 0) (less_test 4096 l)

pub length_means : (stated long : ℕ) → (length_bad stated long ≡ true) ↔ (long ≢ stated)
unfolding length_bad
length_means stated long = other_test long stated

pub number_means : (end x : ℕ) → (number_bad end x ≡ true) ↔ (end ≤ x)
unfolding number_bad
number_means end x = most_test end x

module _ (h : Header) where
  pub nodes_mean : (nodes : List ℕ) → (nodes_bad h nodes ≡ true) ↔ SomeFrom h.n nodes
  unfolding nodes_bad
  nodes_mean nodes = some_from h.n nodes

  pub twice_means : (nodes : List ℕ) → (twice_bad nodes ≡ true) ↔ SomeTwice nodes
  unfolding twice_bad
  twice_means nodes = some_twice nodes

  symbol_means : (x : ℕ) → (symbol_bad h x ≡ true) ↔ (size h ≤ x)
  unfolding symbol_bad
  symbol_means x = most_test (size h) x

  pub symbols_mean : (s : List ℕ) → (symbols_bad h s ≡ true) ↔ OtherSymbols h s
  unfolding symbols_bad
  symbols_mean s = some_from (size h) _

  pub lane_means : (l t : ℕ) (shares : List ℕ) → (lane_bad share_layout h l t shares ≡ true) ↔ SomeFrom (size h) (lane_in h l shares t)
  unfolding lane_bad
  lane_means l t shares = some_from (size h) _

-- a call's own numbers after the record's
pub own_after : (rec : List ℕ) (own : Table) (call : Header → ℕ) → all_from 5 own ≡ true → (record_fault rec ≡ 0 → Tells own (call (header_of rec))) → Tells (record_numbers rec ++ own) (fault_of rec call)
unfolding fault_of
own_after rec own call low tells = after_record rec own low tells

module _ (h : Header) (l : ℕ) where
  pub encode_tells : (message : List ℕ) (out : ℕ) → Tells (encode_numbers h l message out) (encode_fault h l out message)
  unfolding encode_fault
  encode_tells message out =
      line 6 (lanes_bad l) refl (lanes_means l)
      (λ _. line 7 (length_bad (h.k * l * width h) (length message)) refl (length_means _ _)
      (λ _. line 7 (length_bad (h.n * l * width h) out) refl (length_means _ _)
      (λ _. last 10 (symbols_bad h message) (symbols_mean h message))))

  pub belongs_tells : (shares : List ℕ) → Tells (belongs_numbers h l shares) (belongs_fault h l shares)
  unfolding belongs_fault
  belongs_tells shares =
      line 6 (lanes_bad l) refl (lanes_means l)
      (λ _. line 7 (length_bad (h.n * l * width h) (length shares)) refl (length_means _ _)
      (λ _. last 10 (symbols_bad h shares) (symbols_mean h shares)))

  pub rearrange_tells : (rows source out : ℕ) → Tells (rearrange_numbers h rows l source out) (rearrange_fault h rows l source out)
  unfolding rearrange_fault
  rearrange_tells rows source out =
      line 6 (lanes_bad l) refl (lanes_means l)
      (λ _. line 7 (length_bad (rows * l * width h) source) refl (length_means _ _)
      (λ _. last 7 (length_bad (rows * l * width h) out) (length_means _ _)))

  pub differences_tells : (r : ℕ) (old new : List ℕ) (out : ℕ) → Tells (differences_numbers h l r old new out) (differences_fault h l r old new out)
  unfolding differences_fault
  differences_tells r old new out =
      line 6 (lanes_bad l) refl (lanes_means l)
      (λ _. line 7 (length_bad (l * width h) (length old)) refl (length_means _ _)
      (λ _. line 7 (length_bad (l * width h) (length new)) refl (length_means _ _)
      (λ _. line 7 (length_bad (h.n * l * width h) out) refl (length_means _ _)
      (λ _. line 8 (number_bad h.k r) refl (number_means _ _)
      (λ _. line 10 (symbols_bad h old) refl (symbols_mean h old)
      (λ _. last 10 (symbols_bad h new) (symbols_mean h new)))))))

  pub add_tells : (difference share : List ℕ) → Tells (add_numbers h l difference share) (add_fault h l difference share)
  unfolding add_fault
  add_tells difference share =
      line 6 (lanes_bad l) refl (lanes_means l)
      (λ _. line 7 (length_bad (l * width h) (length difference)) refl (length_means _ _)
      (λ _. line 7 (length_bad (l * width h) (length share)) refl (length_means _ _)
      (λ _. line 10 (symbols_bad h difference) refl (symbols_mean h difference)
      (λ _. last 10 (symbols_bad h share) (symbols_mean h share)))))

  module _ (nodes shares : List ℕ) where
    pub recover_tells : (out : ℕ) → Tells (recover_numbers h l nodes shares out) (recover_fault h l nodes shares out)
    unfolding recover_fault list_fault
    recover_tells out =
        line 6 (lanes_bad l) refl (lanes_means l)
        (λ _. line 7 (length_bad h.k (length nodes)) refl (length_means _ _)
        (λ _. line 7 (length_bad (h.k * l * width h) (length shares)) refl (length_means _ _)
        (λ _. line 7 (length_bad (h.k * l * width h) out) refl (length_means _ _)
        (λ _. line 8 (nodes_bad h nodes) refl (nodes_mean h nodes)
        (λ _. line 9 (twice_bad nodes) refl (twice_means h nodes)
        (λ _. last 10 (symbols_bad h shares) (symbols_mean h shares)))))))

    pub rebuild_tells : (target out : ℕ) → Tells (rebuild_numbers h l nodes shares target out) (rebuild_fault h l nodes shares target out)
    unfolding rebuild_fault list_fault
    rebuild_tells target out =
        line 6 (lanes_bad l) refl (lanes_means l)
        (λ _. line 7 (length_bad h.k (length nodes)) refl (length_means _ _)
        (λ _. line 7 (length_bad (h.k * l * width h) (length shares)) refl (length_means _ _)
        (λ _. line 7 (length_bad (l * width h) out) refl (length_means _ _)
        (λ _. line 8 (number_bad h.n target) refl (number_means _ _)
        (λ _. line 8 (nodes_bad h nodes) refl (nodes_mean h nodes)
        (λ _. line 9 (twice_bad nodes) refl (twice_means h nodes)
        (λ _. last 10 (symbols_bad h shares) (symbols_mean h shares))))))))

module _ (h : Header) where
  pub find_tells : (before after : List ℕ) → Tells (find_numbers h before after) (find_fault h before after)
  unfolding find_fault
  find_tells before after =
      line 7 (length_bad (h.n * width h) (length before)) refl (length_means _ _)
      (λ _. line 7 (length_bad (h.n * width h) (length after)) refl (length_means _ _)
      (λ _. line 10 (symbols_bad h before) refl (symbols_mean h before)
      (λ _. last 10 (symbols_bad h after) (symbols_mean h after))))

  pub mends_tells : (lane : List ℕ) (nodes symbols : ℕ) → Tells (mends_numbers h lane nodes symbols) (mends_fault h lane nodes symbols)
  unfolding mends_fault
  mends_tells lane nodes symbols =
      line 7 (length_bad (h.n * width h) (length lane)) refl (length_means _ _)
      (λ _. line 7 (length_bad h.n nodes) refl (length_means _ _)
      (λ _. line 7 (length_bad (h.n * width h) symbols) refl (length_means _ _)
      (λ _. last 10 (symbols_bad h lane) (symbols_mean h lane))))

  pub weights_tells : (out : ℕ) → Tells (weights_numbers h out) (weights_fault h out)
  unfolding weights_fault messages_bad
  weights_tells out =
      line 7 (not (eqb out (h.n + 1))) refl (other_test out (h.n + 1))
      (λ _. last 15 (ltb 65536 (size h ^ h.k)) (less_test 65536 (size h ^ h.k)))

-- Update: where numbers 7 to 11 are not met, the lane decides
module _ (h : Header) (s : Sound h) (l r t old new : ℕ) (shares : List ℕ) where
  given_tells : Tells (given_numbers h l r t old new shares) (input_fault share_layout h l r t old new shares)
  unfolding input_fault
  given_tells =
      line 6 (lanes_bad l) refl (lanes_means l)
      (λ _. line 7 (length_bad (h.n * l * width h) (length shares)) refl (length_means _ _)
      (λ _. line 8 (number_bad h.k r) refl (number_means _ _)
      (λ _. line 8 (number_bad l t) refl (number_means _ _)
      (λ _. line 10 (symbol_bad h old) refl (symbol_means h old)
      (λ _. line 10 (symbol_bad h new) refl (symbol_means h new)
      (λ _. last 10 (lane_bad share_layout h l t shares) (lane_means h l t shares)))))))

  pub update_tells : Tells (update_numbers h l r t old new shares) (update_fault share_layout h l r t old new shares)
  unfolding update_fault stale_fault
  update_tells =
      then 11 (given_numbers h l r t old new shares) (stale_numbers h (lane_in h l shares t) r old) refl refl given_tells
      (λ none.
      let (lane, first, second) = input_accepts h s l r t old new shares none in
      let ws = lane_in h l shares t in
      let long : length ws ≡ h.n = length_lane share_layout h.n l t (symbols_of (width h) shares) in
      stale_tells h s ws long lane.symbols r old)

-- setting right: where numbers 7, 8 and 11 are not met, a lane that no word is near
module _ (h : Header) (s : Sound h) (l : ℕ) (shares : List ℕ) where
  far_means : belongs_fault h l shares ≡ 0 → (far_bad share_layout h l shares ≡ true) ↔ ((t : ℕ) × (t < l) × ((us : List ℕ) → NearWord h (lane_in h l shares t) us → ⊥))
  unfolding far_bad
  far_means none =
      let rows = (belongs_accepts h s l shares none).symbol_rows in
      let b = symbols_of (width h) shares in
      let size_of : (t : ℕ) → length (lane_in h l shares t) ≡ h.n = λ t. length_lane share_layout h.n l t b in (
        λ bad.
            let (t, inside, far) = one_far h s share_lawful l b rows.long rows.symbols (eqb-false _ l (not-true _ bad)) in
            (t, inside, none_near h s (lane_in h l shares t) (size_of t) far),
        λ e.
            let (t, inside, no_word) = e in
            let ws = lane_in h l shares t in
            let far : has_near h ws ≡ false = by_test (has_near h ws) (λ near. absurd (no_word _ (has_near_lem h s ws (size_of t) near))) (λ far. far) in
            ap not (ne_eqb _ l (far_not h s share_lawful l b rows.long rows.symbols t inside far)),
      )

  pub correct_tells : Tells (correct_numbers h l shares) (correct_fault share_layout h l shares)
  unfolding correct_fault
  correct_tells = then 11 (belongs_numbers h l shares) _ refl refl (belongs_tells h l shares) (λ none. last 13 (far_bad share_layout h l shares) (far_means none))

-- listed shares: where numbers 7 to 11 are not met, a lane that no message is near
module _ (h : Header) (l : ℕ) (nodes shares : List ℕ) (out counts : ℕ) where
  count_means : (count_bad h (length nodes) ≡ true) ↔ ((length nodes < h.k) ⊎ (h.n < length nodes))
  unfolding count_bad
  count_means = or_test (ltb (length nodes) h.k) (ltb h.n (length nodes)) (less_test (length nodes) h.k) (less_test h.n (length nodes))

  listed_tells : Tells (listed_numbers h l nodes shares out counts) (listed_fault h l nodes shares out counts)
  unfolding listed_fault list_fault
  listed_tells =
      line 6 (lanes_bad l) refl (lanes_means l)
      (λ _. line 7 (count_bad h (length nodes)) refl count_means
      (λ _. line 7 (length_bad (length nodes * l * width h) (length shares)) refl (length_means _ _)
      (λ _. line 7 (length_bad (h.k * l * width h) out) refl (length_means _ _)
      (λ _. line 7 (length_bad (length nodes) counts) refl (length_means _ _)
      (λ _. line 8 (nodes_bad h nodes) refl (nodes_mean h nodes)
      (λ _. line 9 (twice_bad nodes) refl (twice_means h nodes)
      (λ _. last 10 (symbols_bad h shares) (symbols_mean h shares))))))))

  pub correct_listed_tells : Sound h → Tells (correct_listed_numbers h l nodes shares out counts) (correct_listed_fault share_layout h l nodes shares out counts)
  unfolding correct_listed_fault
  correct_listed_tells s = then 11 (listed_numbers h l nodes shares out counts) _ refl refl listed_tells (λ none. last 13 (far_listed_bad share_layout h nodes l shares) (far_listed_means h s l nodes shares out counts none))
