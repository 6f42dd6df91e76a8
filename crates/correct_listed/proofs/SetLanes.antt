-- What the lent buffers hold when the lanes before t are set right: one lane more, and all of them.
use Rattle.std.specs.Prelude.{Ok, sum}
use mathlib.Core.Path.{◌≡◌, refl, sym, ap, ◌∙◌}
use mathlib.Core.Bool.{true, false}
use mathlib.Core.List.{List}
use Prim.Native.Nat.{ℕ, zero, suc, ◌+◌, ◌*◌, ◌^◌, ◌≤◌, ◌<◌}
use native.Mathlib.Nat.{zero-add}
use native.Mathlib.Numerals.{add-one}
use native.Mathlib.Omega.{arith}
use lib.ListN.{length, get_or}
use Rattle.std.proofs.lemmas.List.Sums.{sum_by-le}
use Rattle.std.proofs.lemmas.List.Folds.{sum_by-replicate}
use Rattle.lists.specs.Choice.{when}
use Rattle.std.specs.List.{All}
use Rattle.std.proofs.lemmas.List.Elements.{All-from_get_or}
use Rattle.lists.specs.Padded.{zeros}
use Rattle.lists.proofs.Search.{search_none, search_passes}
use Rattle.layout.specs.Layout.{row_after_row, lane_after_lane, share_layout, with_lane}
use Rattle.layout.specs.Width.{symbols_of, bytes_of}
use Rattle.layout.proofs.Buffers.{length_buffer}
use Rattle.layout.proofs.LaneParts.{lanes_long}
use Rattle.layout.proofs.Places.{share_by_lane}
use Rattle.layout.proofs.Widths.{length_bytes, symbols_bytes}
use Rattle.generator.specs.declared.Header.{Header}
use Rattle.generator.specs.Records.{width, Sound}
use Rattle.generator.specs.Claims.{at_nodes}
use Rattle.generator.proofs.Widths.{width_some}
use Rattle.near_message.specs.Nearest.{has_near_message, near_message}
use Rattle.listed_products.specs.Inner.Shares.{ListedNodes, ListedBytes, AgreeMarks, first_message, first_messages}
use Rattle.correct_listed.specs.Blocks.{near_message_at, near_messages, wrong_at, wrong_counts, first_far_listed, far_listed_bad}
use Rattle.correct_listed.specs.Promise.{CorrectListedPromise}
use Rattle.correct_listed.specs.Inner.Lanes.{lane_listed, unlike_added}
use Rattle.correct_listed.proofs.Answers.{far_none, listed_done}
use Rattle.correct_listed.proofs.Lanes.{is_listed, wrong_is, none_wrong, agrees_near}
use Rattle.correct_listed.proofs.Steps.{messages_to, messages_none, messages_all, messages_written, messages_stay}
use Rattle.correct_listed.proofs.Counts.{counts_to, counts_none, counts_long, counts_few, counts_added, counts_stay}

module _ (h : Header) (nodes : List ℕ) (l : ℕ) (shares : List ℕ) where
  abbrev s : List ℕ
  s = symbols_of (width h) shares

  abbrev r : ℕ
  r = length nodes

  abbrev near : ℕ → List ℕ
  near q = near_message h nodes (lane_listed h nodes l shares q)

  abbrev first : ℕ → List ℕ
  first q = first_message h nodes (lane_listed h nodes l shares q)

  -- what the buffers hold then
  abbrev pub message_to : ℕ → List ℕ
  message_to t = bytes_of (width h) (messages_to h.k l near first t)

  abbrev pub wrong_to : ℕ → List ℕ
  wrong_to t = counts_to r (wrong_at lane_after_lane h nodes l s) t

  pub message_long : (t : ℕ) → length (message_to t) ≡ width h * h.k * l
  message_long t = length_bytes (width h) _ ∙ ap (λ (x : ℕ). x * width h) (length_buffer row_after_row h.k l _) ∙ lanes_long (width h) h.k l

  pub wrong_long : (t : ℕ) → length (wrong_to t) ≡ r
  wrong_long t = counts_long r (wrong_at lane_after_lane h nodes l s) t

  pub wrong_few : (t i : ℕ) → get_or (wrong_to t) i 0 ≤ t
  wrong_few t i = counts_few r (wrong_at lane_after_lane h nodes l s) t i

  -- before the first lane
  pub message_start : bytes_of (width h) (first_messages h nodes l s) ≡ message_to 0
  unfolding first_messages
  message_start = ap (bytes_of (width h)) (sym (messages_none h.k l near first))

  pub wrong_start : zeros r ≡ wrong_to 0
  wrong_start = sym (counts_none r (wrong_at lane_after_lane h nodes l s))

  -- after the last
  pub message_end : (t : ℕ) → l ≤ t → message_to t ≡ bytes_of (width h) (near_messages lane_after_lane h nodes l s)
  unfolding near_messages near_message_at
  message_end t end = ap (bytes_of (width h)) (messages_all h.k l near first t end)

  pub wrong_end : (t : ℕ) → t ≡ l → wrong_to t ≡ wrong_counts lane_after_lane h nodes l s
  unfolding wrong_counts
  wrong_end t end = ap wrong_to end

  -- the counts are small, and so is their sum
  pub wrong_sum : (t : ℕ) → t ≤ 4096 → r ≤ 255 → sum (wrong_to t) < 2 ^ 32
  wrong_sum t few small =
      let each : All (λ (x : ℕ). x ≤ 4096) (wrong_to t) = All-from_get_or (λ x. x ≤ 4096) (wrong_to t) 0 (λ i inside. omega (arith, wrong_few t i)) in
      let long = wrong_long t in
      omega (arith, sum_by-le (λ (x : ℕ). x) 4096 (wrong_to t) each)

  -- every lane has a message near enough
  pub near_each : first_far_listed lane_after_lane h nodes l s ≡ l → (t : ℕ) → t < l → has_near_message h nodes (lane_listed h nodes l shares t) ≡ true
  unfolding first_far_listed
  near_each none t inside = search_passes l 0 (λ t. has_near_message h nodes (lane_listed h nodes l shares t)) t (omega arith) (omega (arith, none))

  module _ (sound : Sound h) (m : ListedNodes h nodes) (b : ListedBytes h l nodes shares) (t : ℕ) (inside : t < l) where
    -- lane t is written and counted
    pub message_next : {out out' : List ℕ} → out ≡ message_to t → out' ≡ bytes_of (width h) (with_lane row_after_row h.k l t (λ i. get_or (near t) i 0) (symbols_of (width h) out)) → out' ≡ message_to (t + 1)
    message_next is set =
        set
        ∙ ap (λ (ms : List ℕ). bytes_of (width h) (with_lane row_after_row h.k l t (λ i. get_or (near t) i 0) ms)) (ap (symbols_of (width h)) is ∙ symbols_bytes (width h) _ (width_some h))
        ∙ ap (bytes_of (width h)) (messages_written h.k l near first t inside)

    pub wrong_next : {wrong wrong' : List ℕ} → wrong ≡ wrong_to t → wrong' ≡ unlike_added (lane_listed h nodes l shares t) (at_nodes h (near t) nodes) wrong → wrong' ≡ wrong_to (t + 1)
    wrong_next is set =
        set
        ∙ ap (unlike_added (lane_listed h nodes l shares t) (at_nodes h (near t) nodes)) is
        ∙ counts_added r (wrong_at lane_after_lane h nodes l s) t (lane_listed h nodes l shares t) (at_nodes h (near t) nodes) (wrong_is sound m b t inside)

    -- where it is marked 0 both stay
    module _ {marks : List ℕ} (are : AgreeMarks h l nodes shares marks) (none : get_or marks t 0 ≡ 0) where
      pub message_stays : message_to t ≡ message_to (t + 1)
      message_stays = ap (bytes_of (width h)) (messages_stay h.k l near first t (agrees_near sound m (is_listed sound m b t inside) (are.agrees t inside none)).1)

      pub wrong_stays : wrong_to t ≡ wrong_to (t + 1)
      wrong_stays = counts_stay r (wrong_at lane_after_lane h nodes l s) t (none_wrong sound m b t inside (are.agrees t inside none))

      pub marked_near : has_near_message h nodes (lane_listed h nodes l shares t) ≡ true
      marked_near = (agrees_near sound m (is_listed sound m b t inside) (are.agrees t inside none)).0

  -- where all are marked 0
  module _ (sound : Sound h) (m : ListedNodes h nodes) (b : ListedBytes h l nodes shares) {marks : List ℕ} (are : AgreeMarks h l nodes shares marks) (none : (t : ℕ) → t < l → get_or marks t 0 ≡ 0) where
    pub all_stay : (t : ℕ) → t ≤ l → (message_to 0 ≡ message_to t) × (wrong_to 0 ≡ wrong_to t)
    all_stay zero fits = (refl, refl)
    all_stay (suc t) fits =
        let low : t < l = omega arith in
        let before = all_stay t (omega arith) in
        let next : t + 1 ≡ suc t = add-one t in
        (before.0 ∙ message_stays sound m b t low are (none t low) ∙ ap message_to next, before.1 ∙ wrong_stays sound m b t low are (none t low) ∙ ap wrong_to next)

    pub none_far : first_far_listed lane_after_lane h nodes l s ≡ l
    unfolding first_far_listed
    none_far = search_none l 0 (λ t. has_near_message h nodes (lane_listed h nodes l shares t)) (λ t above below. let low : t < l = omega arith in marked_near sound m b t low are (none t low)) ∙ zero-add l

    -- so the message of the first k symbols is the nearest, and none is wrong
    pub all_clean : {out out' wrong wrong' : List ℕ} → out' ≡ bytes_of (width h) (first_messages h nodes l s) → wrong' ≡ zeros r → CorrectListedPromise share_layout l nodes shares out out' wrong wrong' (Ok 0) h (when (far_listed_bad share_layout h nodes l shares) 14)
    unfolding zeros
    all_clean message counts =
        let stay = all_stay l (omega arith) in
        let near : far_listed_bad share_layout h nodes l shares ≡ false = rw share_by_lane (far_none h l nodes shares lane_after_lane none_far) in
        rw near (listed_done h l nodes shares (message ∙ message_start ∙ stay.0 ∙ message_end l (omega arith)) (counts ∙ wrong_start ∙ stay.1 ∙ wrong_end l refl) (rw counts (sym (sum_by-replicate (λ (x : ℕ). x) r 0 ∙ mul-zero-right r))))
      where
        mul-zero-right : (n : ℕ) → n * 0 ≡ 0
        mul-zero-right n = omega arith
