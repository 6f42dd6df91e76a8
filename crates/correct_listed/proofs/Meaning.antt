-- What the promise means, by the words of the code themselves.
use Rattle.std.specs.Prelude.{Ok, sum}
use mathlib.Core.Path.{◌≡◌, refl, sym, ap, ap₂, ◌∙◌}
use mathlib.Core.Bool.{true, false, not}
use mathlib.Core.List.{List}
use Prim.Native.Nat.{ℕ, ◌<◌}
use native.Mathlib.Nat.{zero-add}
use native.Mathlib.Omega.{arith}
use borrow.Author.Tests.{leb-true, le-leb}
use lib.Dec.{eqb}
use lib.ListN.{length, get_or}
use Rattle.lists.specs.Counting.{count_from}
use Rattle.lists.proofs.Cases.{first_zero, when_zero}
use Rattle.lists.proofs.Count.{count_ext}
use Rattle.lists.proofs.Parts.{from_at}
use Rattle.lists.proofs.Rows.{length_from, get_or_from}
use Rattle.layout.specs.Layout.{row_after_row, lane_after_lane, lane_of, share_layout}
use Rattle.layout.specs.Width.{symbols_of}
use Rattle.layout.proofs.Lawful.{by_row}
use Rattle.layout.proofs.Buffers.{get_or_lane, lane_buffer}
use Rattle.layout.proofs.Places.{share_by_lane}
use Rattle.layout.proofs.Widths.{symbols_bytes}
use Rattle.generator.specs.declared.Header.{Header}
use Rattle.generator.specs.Records.{header_of, width, Sound}
use Rattle.generator.specs.Codewords.{node_of}
use Rattle.generator.specs.Claims.{is_message}
use Rattle.generator.proofs.Widths.{width_some}
use Rattle.generator.proofs.Answered.{done_is, value_is}
use Rattle.refusals.specs.Faults.{fault_of}
use Rattle.refusals.proofs.OnRecord.{none_met}
use Rattle.near_message.specs.Nearest.{listed_radius, is_near_message, has_near_message, near_message}
use Rattle.near_message.specs.Inner.Listed.{ListedSymbols}
use Rattle.near_message.proofs.Messages.{one_near, near_message_near}
use Rattle.listed_products.specs.Inner.Shares.{ListedNodes, ListedBytes}
use Rattle.correct_listed.specs.Blocks.{near_message_at, near_messages, wrong_at, wrong_counts, near_message_bytes, wrong_numbers, far_listed_bad}
use Rattle.correct_listed.specs.Promise.{listed_fault, correct_listed_fault, CorrectListedSays}
use Rattle.correct_listed.specs.Meaning.{NearMessage, CorrectListedDone}
use Rattle.correct_listed.specs.Inner.Lanes.{lane_listed}
use Rattle.correct_listed.proofs.Lanes.{is_listed, near_long}
use Rattle.correct_listed.proofs.SetLanes.{near_each}
use Rattle.correct_listed.proofs.Answers.{none_is_far}
use Rattle.correct_listed.proofs.Accepts.{listed_accepts}

-- a message that passes the test is near, and one that is near passes it
module _ {h : Header} {nodes ys ms : List ℕ} where
  pub test_near : is_message h ms ≡ true → is_near_message h nodes ys ms ≡ true → NearMessage h nodes ys ms
  unfolding is_near_message listed_radius
  test_near is passes = record { message = is; close = leb-true _ _ passes }

  pub near_test : NearMessage h nodes ys ms → is_near_message h nodes ys ms ≡ true
  unfolding is_near_message listed_radius
  near_test n = le-leb _ _ n.close

-- a lane of listed shares, all of which have a message near enough
module _ {h : Header} (s : Sound h) {nodes : List ℕ} (m : ListedNodes h nodes) {l : ℕ} {shares : List ℕ} (b : ListedBytes h l nodes shares) (near : far_listed_bad lane_after_lane h nodes l shares ≡ false) where
  abbrev out : List ℕ
  out = near_messages lane_after_lane h nodes l (symbols_of (width h) shares)

  module _ (t : ℕ) (inside : t < l) where
    abbrev ys : List ℕ
    ys = lane_listed h nodes l shares t

    abbrev ms : List ℕ
    ms = near_message h nodes ys

    has : has_near_message h nodes ys ≡ true
    has = near_each h nodes l shares (none_is_far h l nodes shares lane_after_lane near) t inside

    listed : ListedSymbols h nodes ys
    listed = is_listed s m b t inside

    -- what is written to it
    pub written_lane : lane_of row_after_row h.k l t out ≡ ms
    unfolding near_messages near_message_at
    written_lane = lane_buffer by_row h.k l _ t inside ∙ sym (from_at _ ms h.k (near_long s m listed has) (λ i low. refl))

    pub lane_near : NearMessage h nodes ys ms
    lane_near = let found = near_message_near h s nodes ys listed has in test_near found.0 found.1

    pub lane_only : (us : List ℕ) → NearMessage h nodes ys us → us ≡ ms
    lane_only us n =
        let found = near_message_near h s nodes ys listed has in
        one_near h s nodes ys listed us ms n.message found.0 (near_test n) found.1

  -- the lanes in which place i is wrong
  pub count_is : (i : ℕ) → i < length nodes → get_or (wrong_counts lane_after_lane h nodes l (symbols_of (width h) shares)) i 0 ≡ count_from l 0 (λ t. not (eqb (get_or (lane_listed h nodes l shares t) i 0) (node_of h (lane_of row_after_row h.k l t out) (get_or nodes i 0))))
  unfolding wrong_counts wrong_at near_message_at
  count_is i low =
      rw zero-add at (get_or_from (λ i. count_from l 0 (wrong_at lane_after_lane h nodes l (symbols_of (width h) shares) i)) 0 (length nodes) i 0 low)
      ∙ count_ext l 0 _ _
      (λ t above below.
      let inside : t < l = omega arith in
      ap₂ (λ (x : ℕ) (us : List ℕ). not (eqb x (node_of h us (get_or nodes i 0)))) (sym (get_or_lane lane_after_lane (length nodes) l t (symbols_of (width h) shares) i low)) (sym (written_lane t inside)))

  pub counts_long : length (wrong_counts lane_after_lane h nodes l (symbols_of (width h) shares)) ≡ length nodes
  unfolding wrong_counts
  counts_long = length_from _ 0 (length nodes)

-- shares that were set right
module _ {rec : List ℕ} {l : ℕ} {nodes shares out out' wrong wrong' : List ℕ} {count : ℕ} (says : CorrectListedSays rec l nodes shares out out' wrong wrong' (Ok count)) where
  abbrev h : Header
  h = header_of rec

  no_number : fault_of rec (λ h. correct_listed_fault share_layout h l nodes shares (length out) (length wrong)) ≡ 0
  no_number = done_is _ _ says.promise.answered

  sound : Sound h
  sound = (none_met rec (λ h. correct_listed_fault share_layout h l nodes shares (length out) (length wrong)) no_number).0

  faults : (listed_fault h l nodes shares (length out) (length wrong) ≡ 0) × (far_listed_bad lane_after_lane h nodes l shares ≡ false)
  unfolding correct_listed_fault
  faults =
      let parts = first_zero (listed_fault h l nodes shares (length out) (length wrong)) _ (none_met rec (λ h. correct_listed_fault share_layout h l nodes shares (length out) (length wrong)) no_number).1 in
      (parts.0, rw share_by_lane at (when_zero (far_listed_bad share_layout h nodes l shares) 13 parts.1))

  message : symbols_of (width h) out' ≡ near_messages lane_after_lane h nodes l (symbols_of (width h) shares)
  unfolding near_message_bytes
  message = ap (symbols_of (width h)) (rw (no_number, share_by_lane) at says.promise.written) ∙ symbols_bytes (width h) _ (width_some h)

  counted : wrong' ≡ wrong_counts lane_after_lane h nodes l (symbols_of (width h) shares)
  unfolding wrong_numbers
  counted = rw (no_number, share_by_lane) at says.promise.counted

  total : count ≡ sum (wrong_counts lane_after_lane h nodes l (symbols_of (width h) shares))
  unfolding wrong_numbers
  total = rw share_by_lane at (value_is _ _ says.promise.answered)

  pub listed_done_means : CorrectListedDone h l nodes shares out' wrong' count
  listed_done_means =
      let (m, b, size_is, many) = listed_accepts h l nodes shares (length out) (length wrong) faults.0 in
      let far = faults.1 in
      record {
        near = λ t inside. rw (share_by_lane, message, written_lane sound m b far t inside) (lane_near sound m b far t inside);
        only = λ t inside us n. rw message (lane_only sound m b far t inside us (rw share_by_lane at n) ∙ sym (written_lane sound m b far t inside));
        places = rw counted (counts_long sound m b far);
        counts = λ i low. rw (share_by_lane, counted, message) (count_is sound m b far i low);
        sums = rw counted total;
      }
