-- With shares rearranged, each call gives the old results, and share buffers are the old ones rearranged.
use Rattle.std.specs.Prelude.{Option, Ok}
use Rattle.generator.specs.Answers.{Answer, answer_of, outcome_of}
use mathlib.Core.Path.{◌≡◌, sym, ap, ap₂, ◌∙◌}
use mathlib.Core.Bool.{true}
use mathlib.Core.List.{List}
use mathlib.Core.Logic.{by_cases}
use Prim.Native.Nat.{ℕ, ◌<◌}
use native.Mathlib.Decide.{ℕ_discrete}
use lib.Dec.{eqb}
use lib.ListN.{length}
use Rattle.lists.specs.Choice.{pick, first_of}
use Rattle.lists.specs.Numbers.{all_below}
use Rattle.lists.proofs.Cases.{first_zero}
use Rattle.layout.specs.Layout.{Arrangement, share_layout}
use Rattle.layout.proofs.Lawful.{Lawful, by_row, by_lane}
use Rattle.generator.specs.declared.Header.{Header}
use Rattle.generator.specs.Records.{header_of, record_fault}
use Rattle.generator.proofs.Answered.{done_is, answer_refused}
use Rattle.refusals.specs.Faults.{fault_of}
use Rattle.belongs.specs.Promise.{belongs_fault, BelongsSaysIn}
use Rattle.recover.specs.Promise.{recover_fault, rebuild_fault, RecoverSaysIn, RebuildSaysIn}
use Rattle.update.specs.Promise.{input_fault, update_fault, UpdateSaysIn}
use Rattle.encode.specs.Promise.{encode_fault, EncodeSaysIn}
use Rattle.rearrange.proofs.Accepts.{rearrange_accepts}
use Rattle.refusals.proofs.OnRecord.{none_met}
use Rattle.blocks.specs.Answers.{membership_of}
use Rattle.blocks.specs.Bytes.{altered_count, rearranged_bytes}
use Rattle.blocks.proofs.Refused.{refused_value}
use Rattle.rearrange.specs.Promise.{RearrangeSays, rearrange_fault}
use Rattle.demands.specs.LaneAfterLane.{Full, LaneAfterLane}
use Rattle.demands.proofs.TurnedBytes.{input_inside, turned_back, encoded_turned, belongs_turned, wrong_turned, update_turned, updated_turned, altered_turned, recover_turned, rebuild_turned, recovered_turned, rebuilt_turned}

-- the lane of an update that no number turns away
update_inside : (y : Arrangement) (h : Header) (l r t old new : ℕ) (shares : List ℕ) → update_fault y h l r t old new shares ≡ 0 → t < l
unfolding update_fault
update_inside y h l r t old new shares e = input_inside y h l r t old new shares (first_zero (input_fault y h l r t old new shares) _ e).0

module _ {y z : Arrangement} (a : Lawful y) (b : Lawful z) (rec : List ℕ) (l : ℕ) where
  -- the record's header
  abbrev h : Header
  h = header_of rec

  -- calls that meet the same number on a record's header meet the same on the record
  same_number : (f g : Header → ℕ) → g h ≡ f h → fault_of rec g ≡ fault_of rec f
  unfolding fault_of
  same_number f g e = ap (first_of (record_fault rec)) e

  encode : (message out out' new new' : List ℕ) (r u : Answer (Unit {0})) → length new ≡ length out → EncodeSaysIn y rec l message out out' r → EncodeSaysIn z rec l message new new' u → (u ≡ r) × (u ≡ Ok tt → new' ≡ rearranged_bytes y z h h.n l out')
  encode message out out' new new' r u size old now =
      let same : fault_of rec (λ h. encode_fault h l (length new) message) ≡ fault_of rec (λ h. encode_fault h l (length out) message) = rw size in
      let answer : u ≡ r = now.promise.answered ∙ ap outcome_of same ∙ sym old.promise.answered in (
        answer,
        λ done.
            let none = done_is (fault_of rec (λ h. encode_fault h l (length new) message)) _ (sym done ∙ now.promise.answered) in
            let before = sym same ∙ none in
            rw none at now.promise.written ∙ encoded_turned a b h l message ∙ ap (rearranged_bytes y z h h.n l) (sym (rw before at old.promise.written)),
      )

  module _ (shares : List ℕ) (full : Full h h.n l shares) where
    -- all shares, rearranged
    abbrev turned : List ℕ
    turned = rearranged_bytes y z h h.n l shares

    update : (r t old new : ℕ) (shares' now : List ℕ) (before after : Answer ℕ) → UpdateSaysIn y rec l r t old new shares shares' before → UpdateSaysIn z rec l r t old new turned now after → (after ≡ before) × (now ≡ rearranged_bytes y z h h.n l shares')
    update r t old new shares' now before after was is =
        by_cases (ℕ_discrete number 0)
        (λ none.
        let inside = update_inside y h l r t old new shares (none_met rec (λ h. update_fault y h l r t old new shares) none).1 in (
          is.promise.answered ∙ ap₂ answer_of same (altered_turned a b h l shares full r t old new inside) ∙ sym was.promise.answered,
          rw (same ∙ none) at is.promise.written
              ∙ updated_turned a b h l shares full r t old new inside
              ∙ ap (rearranged_bytes y z h h.n l) (sym (rw none at was.promise.written)),
        ))
        (λ some. (
          is.promise.answered
              ∙ ap (λ (f : ℕ). answer_of f (altered_count z h l r t old new turned)) same
              ∙ answer_refused number _ some
              ∙ sym (was.promise.answered ∙ answer_refused number _ some),
          (rw same at is.promise.written) ∙ refused_value number _ turned some ∙ ap (rearranged_bytes y z h h.n l) (sym (was.promise.written ∙ refused_value number _ shares some)),
        ))
      where
        number : ℕ
        number = fault_of rec (λ h. update_fault y h l r t old new shares)

        same : fault_of rec (λ h. update_fault z h l r t old new turned) ≡ number
        same = same_number (λ h. update_fault y h l r t old new shares) (λ h. update_fault z h l r t old new turned) (update_turned a b h l shares full r t old new)

    belongs : (r u : Answer (Option ℕ)) → BelongsSaysIn y rec l shares r → BelongsSaysIn z rec l turned u → u ≡ r
    belongs r u was is =
        is.promise.answered
        ∙ ap₂ (λ (f w : ℕ). membership_of f l w) (same_number (λ h. belongs_fault h l shares) (λ h. belongs_fault h l turned) (belongs_turned a b h l shares full)) (wrong_turned a b h l shares full)
        ∙ sym was.promise.answered

  module _ (nodes shares : List ℕ) (full : Full h h.k l shares) where
    -- the listed shares, rearranged
    abbrev listed : List ℕ
    listed = rearranged_bytes y z h h.k l shares

    recover : (out out' now : List ℕ) (r u : Answer (Unit {0})) → RecoverSaysIn y rec l nodes shares out out' r → RecoverSaysIn z rec l nodes listed out now u → (u ≡ r) × (now ≡ out')
    recover out out' now r u was is =
        let same = same_number (λ h. recover_fault h l nodes shares (length out)) (λ h. recover_fault h l nodes listed (length out)) (recover_turned a b h l nodes shares full (length out)) in (
          is.promise.answered ∙ ap outcome_of same ∙ sym was.promise.answered,
          is.promise.written ∙ ap₂ (λ (f : ℕ) (m : List ℕ). pick (eqb f 0) m out) same (recovered_turned a b h l nodes shares full) ∙ sym was.promise.written,
        )

    rebuild : (target : ℕ) (out out' now : List ℕ) (r u : Answer (Unit {0})) → RebuildSaysIn y rec l nodes shares target out out' r → RebuildSaysIn z rec l nodes listed target out now u → (u ≡ r) × (now ≡ out')
    rebuild target out out' now r u was is =
        let same = same_number (λ h. rebuild_fault h l nodes shares target (length out)) (λ h. rebuild_fault h l nodes listed target (length out)) (rebuild_turned a b h l nodes shares full target (length out)) in (
          is.promise.answered ∙ ap outcome_of same ∙ sym was.promise.answered,
          is.promise.written ∙ ap₂ (λ (f : ℕ) (m : List ℕ). pick (eqb f 0) m out) same (rebuilt_turned a b h l nodes shares full target) ∙ sym was.promise.written,
        )

  -- the two calls, of all nodes or of listed ones
  calls : (rows : Header → ℕ) (s out out' end end' : List ℕ) → all_below 256 s ≡ true → RearrangeSays y z rows rec l s out out' (Ok tt) → RearrangeSays z y rows rec l out' end end' (Ok tt) → end' ≡ s
  calls rows s out out' end end' bytes first second =
      let none = done_is (fault_of rec (λ h. rearrange_fault h (rows h) l (length s) (length out))) _ first.promise.answered in
      let after = done_is (fault_of rec (λ h. rearrange_fault h (rows h) l (length out') (length end))) _ second.promise.answered in
      let (sound, own) = none_met rec (λ h. rearrange_fault h (rows h) l (length s) (length out)) none in
      let (long, room) = rearrange_accepts h sound l (rows h) (length s) (length out) own in
      rw after at second.promise.written
      ∙ ap (rearranged_bytes z y h (rows h) l) (rw none at first.promise.written)
      ∙ turned_back a b h (rows h) l s long bytes

  -- Recover of shares that the call rearranged
  listed_recover : (nodes s moved moved' out out' now : List ℕ) (r u : Answer (Unit {0})) → RearrangeSays y z (λ h. h.k) rec l s moved moved' (Ok tt) → RecoverSaysIn y rec l nodes s out out' r → RecoverSaysIn z rec l nodes moved' out now u → (u ≡ r) × (now ≡ out')
  listed_recover nodes s moved moved' out out' now r u done was is =
      let none = done_is (fault_of rec (λ h. rearrange_fault h h.k l (length s) (length moved))) _ done.promise.answered in
      let (sound, own) = none_met rec (λ h. rearrange_fault h h.k l (length s) (length moved)) none in
      let (long, room) = rearrange_accepts h sound l h.k (length s) (length moved) own in
      let turned : moved' ≡ rearranged_bytes y z h h.k l s = rw none at done.promise.written in
      recover nodes s long out out' now r u was (rw turned at is)

pub lane_after_lane_lem : LaneAfterLane
unfolding share_layout
lane_after_lane_lem =
    record {
      encode = λ rec l. encode by_row by_lane rec l;
      update = λ rec l r t old new s s' now before after full. update by_row by_lane rec l s full r t old new s' now before after;
      recover = λ rec l nodes s out out' now r u full. recover by_row by_lane rec l nodes s full out out' now r u;
      rebuild = λ rec l nodes s target out out' now r u full. rebuild by_row by_lane rec l nodes s full target out out' now r u;
      belongs = λ rec l s r u full. belongs by_row by_lane rec l s full r u;
      back = turned_back by_row by_lane;
      forth = turned_back by_lane by_row;
      calls_back = λ rec l. calls by_row by_lane rec l (λ h. h.n);
      calls_forth = λ rec l. calls by_lane by_row rec l (λ h. h.n);
      listed_back = λ rec l. calls by_row by_lane rec l (λ h. h.k);
      listed_forth = λ rec l. calls by_lane by_row rec l (λ h. h.k);
      listed_recover = λ rec l. listed_recover by_row by_lane rec l;
    }
