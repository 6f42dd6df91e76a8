-- Setting right, sentence by sentence, from what the call promises.
use Rattle.std.specs.Prelude.{Option, None, Ok, Err}
use Rattle.generator.specs.Answers.{Answer, answer_of}
use mathlib.Core.Path.{◌≡◌, refl, sym, ap, ap₂, ◌∙◌}
use mathlib.Core.Logic.{◌↔◌, by_cases}
use mathlib.Core.Bool.{Bool, true, false, not}
use mathlib.Core.List.{List}
use Prim.Native.Nat.{ℕ, zero, suc, ◌+◌, ◌*◌, ◌≤◌, ◌<◌}
use native.Mathlib.Decide.{ℕ_discrete}
use native.Mathlib.Nat.{zero-add}
use native.Mathlib.Omega.{arith}
use borrow.Author.Tests.{eqb-true, eqb-false, eq-eqb, ne_eqb, not-true, not-false}
use lib.Dec.{eqb}
use lib.ListN.{length}
use Rattle.lists.specs.Choice.{first_of, when}
use Rattle.lists.specs.Counting.{differ}
use Rattle.lists.specs.Numbers.{all_below}
use Rattle.lists.proofs.Cases.{by_test, first_zero, when_zero}
use Rattle.lists.proofs.Differ.{differ_same}
use Rattle.lists.proofs.Search.{search_none}
use Rattle.layout.specs.Layout.{Arrangement, share_layout, lane_of, rearranged}
use Rattle.layout.specs.Width.{symbols_of, bytes_of}
use Rattle.layout.proofs.Lawful.{Lawful, by_row, by_lane}
use Rattle.layout.proofs.Buffers.{length_lane, lanes_equal}
use Rattle.layout.proofs.Places.{share_lawful}
use Rattle.layout.proofs.Readings.{count_symbols}
use Rattle.layout.proofs.Widths.{symbols_bytes, length_bytes}
use Rattle.generator.specs.declared.Header.{Header}
use Rattle.generator.specs.Records.{header_of, kind_bad, body_bad, field_bad, size_bad, root_bad, header_fault, record_fault, size, width, Sound}
use Rattle.generator.specs.Codewords.{is_word}
use Rattle.generator.specs.Claims.{Codeword}
use Rattle.generator.proofs.Accepts.{faultless_sound}
use Rattle.generator.proofs.Widths.{width_some}
use Rattle.generator.proofs.Answered.{done_is, refused_is, answer_refused}
use Rattle.refusals.specs.Conditions.{lanes_bad, length_bad, symbols_bad}
use Rattle.refusals.specs.Faults.{fault_of}
use Rattle.belongs.specs.Promise.{belongs_fault, BelongsSays}
use Rattle.refusals.proofs.Accepts.{not_met}
use Rattle.belongs.proofs.Accepts.{belongs_accepts}
use Rattle.refusals.proofs.OnRecord.{none_met}
use Rattle.blocks.specs.Blocks.{first_wrong}
use Rattle.blocks.specs.Bytes.{wrong_lane, rearranged_bytes}
use Rattle.blocks.proofs.Refused.{refused_value}
use Rattle.demands.specs.LaneAfterLane.{Full}
use Rattle.demands.proofs.TurnedBytes.{belongs_turned}
use Rattle.nearest_word.specs.Nearest.{has_near, corrected}
use Rattle.nearest_word.proofs.Corrected.{corrected_word, exact}
use Rattle.correct.specs.Blocks.{corrected_shares, first_far, corrected_bytes, corrected_count, far_bad}
use Rattle.correct.specs.Promise.{correct_fault, CorrectSaysIn, CorrectSays}
use Rattle.correct.specs.Meaning.{NearWord, lane_in, CorrectDone}
use Rattle.demands.specs.Corrections.{Corrections}
use Rattle.correct.proofs.Answered.{symbols_written, counted}
use Rattle.correct.proofs.Shares.{is_lane, lane_corrected, length_corrected, corrected_symbols}
use Rattle.correct.proofs.Meaning.{far_apart, one_near, has_near_lem, none_near, corrected_is_near, corrected_only, corrected_stays, test_word, all_near, one_far, far_not}
use Rattle.correct.proofs.Turned.{far_turned, corrected_turned, count_turned}

-- lengths and symbols that pass
pub length_passes : (stated long : ℕ) → long ≡ stated → length_bad stated long ≡ false
unfolding length_bad
length_passes stated long e = ap not (eq-eqb long stated e)

symbols_pass : (h : Header) (s : List ℕ) → all_below (size h) (symbols_of (width h) s) ≡ true → symbols_bad h s ≡ false
unfolding symbols_bad
symbols_pass h s e = ap not e

-- the symbols of shares that numbers 7, 8 and 11 do not turn away
module _ (h : Header) (sound : Sound h) (l : ℕ) (shares : List ℕ) (none : belongs_fault h l shares ≡ 0) where
  abbrev s : List ℕ
  s = symbols_of (width h) shares

  symbols_long : length s ≡ h.n * l
  symbols_long = (belongs_accepts h sound l shares none).symbol_rows.long

  symbols_below : all_below (size h) s ≡ true
  symbols_below = (belongs_accepts h sound l shares none).symbol_rows.symbols

  -- number 14 is not given: no lane is too far
  near_all : far_bad share_layout h l shares ≡ false → (t : ℕ) → t < l → has_near h (lane_in h l shares t) ≡ true
  unfolding far_bad
  near_all good = all_near h sound share_lawful l s symbols_long symbols_below (eqb-true _ l (not-false _ good))

  -- it is: some lane is
  far_one : far_bad share_layout h l shares ≡ true → (t : ℕ) × (t < l) × (has_near h (lane_in h l shares t) ≡ false)
  unfolding far_bad
  far_one bad = one_far h sound share_lawful l s symbols_long symbols_below (eqb-false _ l (not-true _ bad))

  one_bad : (t : ℕ) → t < l → has_near h (lane_in h l shares t) ≡ false → far_bad share_layout h l shares ≡ true
  unfolding far_bad
  one_bad t inside far = ap not (ne_eqb _ l (far_not h sound share_lawful l s symbols_long symbols_below t inside far))

-- calls that meet the same number on a record's header meet the same on the record
fault_on : (rec : List ℕ) (f g : Header → ℕ) → g (header_of rec) ≡ f (header_of rec) → fault_of rec g ≡ fault_of rec f
unfolding fault_of
fault_on rec f g e = ap (first_of (record_fault rec)) e

-- the record's number and the call's, taken apart
module _ (rec : List ℕ) (l : ℕ) (shares : List ℕ) where
  abbrev h : Header
  h = header_of rec

  abbrev number : ℕ
  number = fault_of rec (λ h. correct_fault share_layout h l shares)

  abbrev earlier : ℕ
  earlier = fault_of rec (λ h. belongs_fault h l shares)

  -- the earlier numbers come first
  later : earlier ≡ 0 → number ≡ when (far_bad share_layout h l shares) 14
  unfolding fault_of correct_fault
  later none =
      let (own, rest) = first_zero (record_fault rec) (belongs_fault h l shares) none in
      rw (own, rest)

  first : (earlier ≡ 0 → ⊥) → number ≡ earlier
  unfolding fault_of correct_fault
  first some = go (record_fault rec) (belongs_fault h l shares) some
    where
      go : (f g : ℕ) → (first_of f g ≡ 0 → ⊥) → first_of f (first_of g (when (far_bad share_layout h l shares) 14)) ≡ first_of f g
      go (suc f) g n = refl
      go zero (suc g) n = refl
      go zero zero n = absurd (n refl)

  none_earlier : number ≡ 0 → earlier ≡ 0
  none_earlier none = by_cases (ℕ_discrete earlier 0) (λ e. e) (λ some. sym (first some) ∙ none)

  module _ (none : earlier ≡ 0) where
    own : Sound h × (belongs_fault h l shares ≡ 0)
    own = none_met rec (λ h. belongs_fault h l shares) none

  -- what is known of a call that was done
  module _ (shares' : List ℕ) (count : ℕ) (says : CorrectSays rec l shares shares' (Ok count)) where
    no_number : number ≡ 0
    no_number = done_is number _ says.promise.answered

    accepted : Sound h × (belongs_fault h l shares ≡ 0)
    accepted = own (none_earlier no_number)

    abbrev sound : Sound h
    sound = accepted.0

    abbrev long : length (symbols_of (width h) shares) ≡ h.n * l
    long = symbols_long h sound l shares accepted.1

    abbrev below : all_below (size h) (symbols_of (width h) shares) ≡ true
    below = symbols_below h sound l shares accepted.1

    near_good : far_bad share_layout h l shares ≡ false
    near_good = when_zero (far_bad share_layout h l shares) 13 (sym (later (none_earlier no_number)) ∙ no_number)

    -- the symbols that were written
    written : symbols_of (width h) shares' ≡ corrected_shares share_layout h l (symbols_of (width h) shares)
    written = symbols_written rec l shares shares' count says

    lane_is : (t : ℕ) → t < l → lane_in h l shares' t ≡ corrected h (lane_in h l shares t)
    lane_is t inside = ap (lane_of share_layout h.n l t) written ∙ lane_corrected share_lawful h sound l (symbols_of (width h) shares) long below t inside

    done : CorrectDone h l shares shares' count
    done =
        record {
          near = λ t inside.
              let is = is_lane share_lawful h sound l (symbols_of (width h) shares) long below t inside in
              rw (lane_is t inside) (corrected_is_near h sound (lane_in h l shares t) is.long is.below (near_all h sound l shares accepted.1 near_good t inside));
          only = λ t inside us n.
              let is = is_lane share_lawful h sound l (symbols_of (width h) shares) long below t inside in
              corrected_only h sound (lane_in h l shares t) is.long is.below us n ∙ sym (lane_is t inside);
          stays = λ t inside w.
              let is = is_lane share_lawful h sound l (symbols_of (width h) shares) long below t inside in
              lane_is t inside ∙ corrected_stays h sound (lane_in h l shares t) is.long is.below w;
          counts = counted rec l shares shares' count says;
        }

    -- Belongs meets no number, and finds no wrong lane
    belongs_none : belongs_fault h l shares' ≡ 0
    unfolding belongs_fault corrected_bytes
    belongs_none =
        let (seven, after) = not_met (lanes_bad l) 6 _ accepted.1 in
        let (eight, last) = not_met (length_bad (h.n * l * width h) (length shares)) 7 _ after in
        let size_is : length shares' ≡ h.n * l * width h = ap length (rw no_number at says.promise.written) ∙ length_bytes (width h) _ ∙ ap (λ (x : ℕ). x * width h) (length_corrected share_lawful h sound l (symbols_of (width h) shares) long below) in
        let good : symbols_bad h shares' ≡ false = symbols_pass h shares' (ap (all_below (size h)) written ∙ corrected_symbols share_lawful h sound l (symbols_of (width h) shares) long below) in
        rw (seven, length_passes (h.n * l * width h) (length shares') size_is, good)

    no_wrong : wrong_lane share_layout h l shares' ≡ l
    unfolding wrong_lane first_wrong
    no_wrong =
        search_none l 0 (λ t. is_word h (lane_in h l shares' t))
        (λ t low high.
        let inside : t < l = omega arith in
        let is = is_lane share_lawful h sound l (symbols_of (width h) shares) long below t inside in
        ap (is_word h) (lane_is t inside) ∙ corrected_word h sound (lane_in h l shares t) is.long is.below (near_all h sound l shares accepted.1 near_good t inside))
        ∙ zero-add l

    belongs : (r : Answer (Option ℕ)) → BelongsSays rec l shares' r → r ≡ Ok None
    unfolding fault_of answer_of
    belongs r promised =
        let (fine, rest) = first_zero (record_fault rec) (belongs_fault h l shares) (none_earlier no_number) in
        promised.promise.answered ∙ rw (fine, belongs_none, no_wrong, eq-eqb l l refl)

    -- for k = n and k = n − 1 only words pass
    exactly : h.n ≤ h.k + 1 → ((t : ℕ) → t < l → Codeword h (lane_in h l shares t)) × (symbols_of (width h) shares' ≡ symbols_of (width h) shares) × (count ≡ 0)
    exactly fits =
        let word : (t : ℕ) → t < l → Codeword h (lane_in h l shares t) = λ t inside.
        let is = is_lane share_lawful h sound l (symbols_of (width h) shares) long below t inside in
        test_word h sound (lane_in h l shares t) is.long is.below (sym (exact h sound (lane_in h l shares t) is.long is.below fits) ∙ near_all h sound l shares accepted.1 near_good t inside) in
        let same : symbols_of (width h) shares' ≡ symbols_of (width h) shares =
        lanes_equal share_lawful h.n l _ _ (ap length written ∙ length_corrected share_lawful h sound l (symbols_of (width h) shares) long below) long (λ t inside. done.stays t inside (word t inside)) in
        (word, same, done.counts ∙ ap (differ (symbols_of (width h) shares)) same ∙ differ_same (symbols_of (width h) shares))

  -- a call that was turned away
  module _ (shares' : List ℕ) where
    untouched : (g : ℕ) → CorrectSays rec l shares shares' (Err g) → shares' ≡ shares
    untouched g says =
        let (same, some) = refused_is number _ g says.promise.answered in
        says.promise.written ∙ refused_value number _ shares (λ e. some (same ∙ e))

    -- no earlier number is 14
    not_earlier : earlier ≡ 14 → ⊥
    unfolding fault_of record_fault header_fault belongs_fault
    not_earlier =
        go (kind_bad rec) (body_bad rec) (field_bad rec) (size_bad h) (root_bad h) (lanes_bad l) (length_bad (h.n * l * width h) (length shares)) (symbols_bad h shares)
      where
        go : (a b c d e f g i : Bool) → first_of (first_of (when a 1) (first_of (when b 2) (first_of (when c 3) (first_of (when d 4) (when e 5))))) (first_of (when f 7) (first_of (when g 8) (when i 11))) ≡ 14 → ⊥
        go true b c d e f g i z = omega arith
        go false true c d e f g i z = omega arith
        go false false true d e f g i z = omega arith
        go false false false true e f g i z = omega arith
        go false false false false true f g i z = omega arith
        go false false false false false true g i z = omega arith
        go false false false false false false true i z = omega arith
        go false false false false false false false true z = omega arith
        go false false false false false false false false z = omega arith

    refused : (r : Answer ℕ) → CorrectSays rec l shares shares' r → (r ≡ Err 14) ↔ ((earlier ≡ 0) × ((t : ℕ) × (t < l) × ((us : List ℕ) → NearWord h (lane_in h l shares t) us → ⊥)))
    refused r says = (to, back)
      where
        to : r ≡ Err 14 → (earlier ≡ 0) × ((t : ℕ) × (t < l) × ((us : List ℕ) → NearWord h (lane_in h l shares t) us → ⊥))
        to e =
            let is : 14 ≡ number = (refused_is number _ 14 (sym e ∙ says.promise.answered)).0 in
            let none : earlier ≡ 0 = by_cases (ℕ_discrete earlier 0) (λ z. z) (λ some. absurd (not_earlier (sym (first some) ∙ sym is))) in
            let (sound, fine) = own none in
            let bad : far_bad share_layout h l shares ≡ true = by_test (far_bad share_layout h l shares) (λ b. b) (λ b. absurd (omega (arith, is, later none ∙ ap (λ (x : Bool). when x 14) b))) in
            let (t, inside, far) = far_one h sound l shares fine bad in
            (none, (t, inside, λ us n. none_near h sound (lane_in h l shares t) (length_lane share_layout h.n l t (symbols_of (width h) shares)) far us n))

        back : (earlier ≡ 0) × ((t : ℕ) × (t < l) × ((us : List ℕ) → NearWord h (lane_in h l shares t) us → ⊥)) → r ≡ Err 14
        back (none, (t, inside, no_word)) =
            let (sound, fine) = own none in
            let ws = lane_in h l shares t in
            let far : has_near h ws ≡ false = by_test (has_near h ws) (λ b. absurd (no_word _ (has_near_lem h sound ws (length_lane share_layout h.n l t (symbols_of (width h) shares)) b))) (λ b. b) in
            let is : number ≡ 14 = later none ∙ ap (λ (x : Bool). when x 14) (one_bad h sound l shares fine t inside far) in
            says.promise.answered ∙ ap (λ (f : ℕ). answer_of f (corrected_count share_layout h l shares)) is ∙ answer_refused 14 _ (λ z. omega arith)

-- with shares rearranged
module _ {y z : Arrangement} (a : Lawful y) (b : Lawful z) (h : Header) (l : ℕ) (shares : List ℕ) (full : length shares ≡ h.n * l * width h) where
  abbrev turned : List ℕ
  turned = rearranged_bytes y z h h.n l shares

  symbols_turned : symbols_of (width h) turned ≡ rearranged y z h.n l (symbols_of (width h) shares)
  unfolding rearranged_bytes
  symbols_turned = symbols_bytes (width h) _ (width_some h)

  -- the number
  fault_turned : correct_fault z h l turned ≡ correct_fault y h l shares
  unfolding correct_fault far_bad
  fault_turned =
      ap₂ (λ (f x : ℕ). first_of f (when (not (eqb x l)) 14)) (belongs_turned a b h l shares full)
      (ap (first_far z h l) symbols_turned ∙ far_turned a b h l (symbols_of (width h) shares))

  -- the bytes and the count
  bytes_turned : corrected_bytes z h l turned ≡ rearranged_bytes y z h h.n l (corrected_bytes y h l shares)
  unfolding corrected_bytes rearranged_bytes
  bytes_turned =
      ap (λ (x : List ℕ). bytes_of (width h) (corrected_shares z h l x)) symbols_turned
      ∙ ap (bytes_of (width h)) (corrected_turned a b h l (symbols_of (width h) shares) ∙ ap (rearranged y z h.n l) (sym (symbols_bytes (width h) _ (width_some h))))

  counts_turned : corrected_count z h l turned ≡ corrected_count y h l shares
  unfolding corrected_count
  counts_turned =
      ap (λ (x : List ℕ). differ x (corrected_shares z h l x)) symbols_turned
      ∙ count_turned a b h l (symbols_of (width h) shares) (count_symbols (width h) (h.n * l) shares (width_some h) full)

module _ {y z : Arrangement} (a : Lawful y) (b : Lawful z) (rec : List ℕ) (l : ℕ) (shares : List ℕ) (full : Full (header_of rec) (header_of rec).n l shares) where
  lanes : (shares' now : List ℕ) (before after : Answer ℕ) → CorrectSaysIn y rec l shares shares' before → CorrectSaysIn z rec l (rearranged_bytes y z (header_of rec) (header_of rec).n l shares) now after → (after ≡ before) × (now ≡ rearranged_bytes y z (header_of rec) (header_of rec).n l shares')
  lanes shares' now before after was is = (
    is.promise.answered ∙ ap₂ answer_of same (counts_turned a b h' l shares full) ∙ sym was.promise.answered,
    by_cases (ℕ_discrete given 0)
        (λ none.
        rw (same ∙ none) at is.promise.written ∙ bytes_turned a b h' l shares full ∙ ap (rearranged_bytes y z h' h'.n l) (sym (rw none at was.promise.written)))
        (λ some.
        rw same at is.promise.written ∙ refused_value given _ _ some ∙ ap (rearranged_bytes y z h' h'.n l) (sym (was.promise.written ∙ refused_value given _ shares some))),
  )
    where
      h' : Header
      h' = header_of rec

      given : ℕ
      given = fault_of rec (λ h. correct_fault y h l shares)

      same : fault_of rec (λ h. correct_fault z h l (rearranged_bytes y z (header_of rec) (header_of rec).n l shares)) ≡ given
      same = fault_on rec (λ h. correct_fault y h l shares) (λ h. correct_fault z h l (rearranged_bytes y z (header_of rec) (header_of rec).n l shares)) (fault_turned a b (header_of rec) l shares full)

pub corrections : Corrections
unfolding share_layout
corrections =
    record {
      apart = λ rec none. far_apart (header_of rec) (faultless_sound rec none);
      one = λ rec none ws us vs long. one_near (header_of rec) (faultless_sound rec none) ws long us vs;
      done = done;
      belongs = belongs;
      refused = refused;
      untouched = untouched;
      exact = λ rec l shares shares' count fits says. exactly rec l shares shares' count says fits;
      lanes = λ rec l s s' now before after full. lanes by_row by_lane rec l s full s' now before after;
    }
