-- From the answers of the calls to what the functions of the C interface promise.
use Rattle.std.specs.Prelude.{Option, Some, None, Result, Ok, Err, unwrap_or, MatchResult}
use Rattle.std.specs.Result.{result_unwrap_or, result_map_both, IsOkAnd}
use Rattle.generator.specs.declared.refusal.Refusal.{Refusal}
use Rattle.generator.specs.Answers.{Answer, numbered, answer_of, outcome_of, fault_in}
use mathlib.Core.Path.{◌≡◌, refl, sym, ap, ap₂, ◌∙◌}
use mathlib.Core.List.{List}
use Prim.Native.Nat.{ℕ, zero, suc}
use lib.Dec.{eqb}
use lib.ListN.{length}
use Rattle.lists.specs.Choice.{pick}
use Rattle.layout.specs.Layout.{Arrangement, share_layout}
use Rattle.generator.specs.declared.Header.{Header}
use Rattle.generator.specs.Records.{header_of}
use Rattle.generator.proofs.Answered.{refused_is, answer_number}
use Rattle.blocks.specs.Bytes.{altered_count, wrong_lane}
use Rattle.refusals.specs.Faults.{fault_of}
use Rattle.belongs.specs.Promise.{belongs_fault, BelongsSays}
use Rattle.recover.specs.Promise.{recover_fault, rebuild_fault, RecoverSays, RebuildSays}
use Rattle.update.specs.Promise.{update_fault, UpdateSays}
use Rattle.encode.specs.Promise.{encode_fault, EncodeSays}
use Rattle.blocks.specs.Answers.{membership_of}
use Rattle.blocks.proofs.Answered.{yes_means, no_means}
use Rattle.blocks.proofs.Bytes.{altered_symbols}
use Rattle.blocks.proofs.Refused.{refused_value}
use Rattle.rearrange.specs.Promise.{RearrangeSays, rearrange_fault}
use Rattle.weight_counts.specs.Weights.{weights_fault, WeightsSay}
use Rattle.balanced_c.specs.Calls.{EncodeGives, UpdateGives, RecoverGives, RebuildGives, BelongsGives, RearrangeGives, WeightsGive}

-- an outcome that a call says, by its number
pub by_number : (a : Answer (Unit {0})) (r f : ℕ) → r ≡ fault_in a → a ≡ outcome_of f → r ≡ f
by_number a r f e answer = e ∙ ap fault_in answer ∙ answer_number f tt

pub encode_gives : (rec : List ℕ) (l : ℕ) (message shares shares' : List ℕ) (a : Answer (Unit {0})) (r : ℕ) → r ≡ fault_in a → EncodeSays rec l message shares shares' a → EncodeGives rec l message shares shares' r
encode_gives rec l message shares shares' a r e says =
    let number = by_number a r (fault_of rec (λ h. encode_fault h l (length shares) message)) e says.promise.answered in
    record { number = number; says = record { promise = record { answered = ap outcome_of number; written = says.promise.written } } }

pub recover_gives : (rec : List ℕ) (l : ℕ) (nodes shares message message' : List ℕ) (a : Answer (Unit {0})) (r : ℕ) → r ≡ fault_in a → RecoverSays rec l nodes shares message message' a → RecoverGives rec l nodes shares message message' r
recover_gives rec l nodes shares message message' a r e says =
    let number = by_number a r (fault_of rec (λ h. recover_fault h l nodes shares (length message))) e says.promise.answered in
    record { number = number; says = record { promise = record { answered = ap outcome_of number; written = says.promise.written } } }

pub rebuild_gives : (rec : List ℕ) (l : ℕ) (nodes shares : List ℕ) (target : ℕ) (share share' : List ℕ) (a : Answer (Unit {0})) (r : ℕ) → r ≡ fault_in a → RebuildSays rec l nodes shares target share share' a → RebuildGives rec l nodes shares target share share' r
rebuild_gives rec l nodes shares target share share' a r e says =
    let number = by_number a r (fault_of rec (λ h. rebuild_fault h l nodes shares target (length share))) e says.promise.answered in
    record { number = number; says = record { promise = record { answered = ap outcome_of number; written = says.promise.written } } }

pub rearrange_gives : (y z : Arrangement) (rows : Header → ℕ) (rec : List ℕ) (l : ℕ) (source out out' : List ℕ) (a : Answer (Unit {0})) (r : ℕ) → r ≡ fault_in a → RearrangeSays y z rows rec l source out out' a → RearrangeGives y z rows rec l source out out' r
rearrange_gives y z rows rec l source out out' a r e says =
    let number = by_number a r (fault_of rec (λ h. rearrange_fault h (rows h) l (length source) (length out))) e says.promise.answered in
    record { number = number; says = record { promise = record { answered = ap outcome_of number; written = says.promise.written } } }

pub weights_give : (rec counts counts' : List ℕ) (a : Answer (Unit {0})) (r : ℕ) → r ≡ fault_in a → WeightsSay rec counts counts' a → WeightsGive rec counts counts' r
weights_give rec counts counts' a r e says =
    let number = by_number a r (fault_of rec (λ h. weights_fault h (length counts))) e says.counted.promise.answered in
    record { number = number; says = record { counted = record { promise = record { answered = ap outcome_of number; written = says.counted.promise.written } }; claims = says.claims } }

-- an answer with another value in its place
abbrev pub with_value : {A B : Type 0} → (A → B) → Answer A → Answer B
with_value h a = result_map_both h (λ (f : ℕ). f) a

-- what `map` gives, by numbers
pub mapped : {A B : Type 0} (P : A → B → Type 0) (h : A → B) (a : Result A Refusal) (b : Result B Refusal) → MatchResult a (λ x. IsOkAnd b (P x)) (λ e. b ≡ Err e) → ((x : A) (y : B) → P x y → y ≡ h x) → numbered b ≡ with_value h (numbered a)
mapped P h (Ok x) (Ok y) given is = ap Ok (is x y given)
mapped P h (Ok x) (Err e) given is = absurd given
mapped P h (Err e) b given is = rw given refl

-- an answer with a value: what is handed over, and the same answer made of that
module _ (count held : ℕ) where
  pub counted_value : (f : ℕ) → result_unwrap_or (answer_of f count) held ≡ pick (eqb f 0) count held
  unfolding answer_of
  counted_value zero = refl
  counted_value (suc f) = sym (refused_value (suc f) count held (λ z. absurd cc))

  pub counted_again : (f : ℕ) → answer_of f (pick (eqb f 0) count held) ≡ answer_of f count
  unfolding answer_of
  counted_again zero = refl
  counted_again (suc f) = refl

-- a value that is handed over where no number is met
pub handed : (f : ℕ) {u v : ℕ} (w : ℕ) → (f ≡ 0 → u ≡ v) → pick (eqb f 0) u w ≡ pick (eqb f 0) v w
handed zero w same = same refl
handed (suc f) {u} {v} w same =
    let some : suc f ≡ 0 → ⊥ = λ z. absurd cc in
    refused_value (suc f) u w some ∙ sym (refused_value (suc f) v w some)

module _ (rec : List ℕ) (l symbol lane old new : ℕ) (shares : List ℕ) (altered : ℕ) (shares' : List ℕ) (a : Answer ℕ) where
  abbrev update_number : ℕ
  update_number = fault_of rec (λ h. update_fault share_layout h l symbol lane old new shares)

  abbrev count : ℕ
  count = altered_count share_layout (header_of rec) l symbol lane old new shares

  pub update_gives : (altered' r : ℕ) → r ≡ fault_in a → altered' ≡ result_unwrap_or a altered → UpdateSays rec l symbol lane old new shares shares' a → UpdateGives rec l symbol lane old new shares altered shares' altered' r
  update_gives altered' r e v says =
      let number : r ≡ update_number = e ∙ ap fault_in says.promise.answered ∙ answer_number update_number count in
      let value : altered' ≡ pick (eqb update_number 0) count altered = v ∙ ap (λ (x : Answer ℕ). result_unwrap_or x altered) says.promise.answered ∙ counted_value count altered update_number in
      record {
        number = number;
        says = record { promise = record { answered = ap₂ answer_of number value ∙ counted_again count altered update_number; written = says.promise.written } };
        altered_is = rw number (value ∙ handed update_number altered (λ none. altered_symbols (header_of rec) share_layout l symbol lane old new shares shares' (rw none at says.promise.written)));
      }

module _ (rec : List ℕ) (l : ℕ) (shares : List ℕ) (first : ℕ) where
  abbrev belongs_number : ℕ
  belongs_number = fault_of rec (λ h. belongs_fault h l shares)

  abbrev wrong : ℕ
  wrong = wrong_lane share_layout (header_of rec) l shares

  -- the lane that is named, or the number of lanes
  named : (f : ℕ) (w : Option ℕ) → Ok w ≡ membership_of f l wrong → (f ≡ 0) × (unwrap_or w l ≡ wrong)
  named f None e = let (none, all) = yes_means f l wrong e in (none, sym all)
  named f (Some t) e = let (none, at, other) = no_means f l wrong t e in (none, sym at)

  pub belongs_gives : (a : Answer (Option ℕ)) (first' r : ℕ) → r ≡ fault_in (with_value (λ w. unwrap_or w l) a) → first' ≡ result_unwrap_or (with_value (λ w. unwrap_or w l) a) first → BelongsSays rec l shares a → BelongsGives rec l shares first first' r
  belongs_gives (Ok w) first' r e v says =
      let (none, at) = named belongs_number w says.promise.answered in
      rw (e, v) record { number = sym none; first_is = at }
  belongs_gives (Err g) first' r e v says =
      let (same, some) = refused_is belongs_number _ g says.promise.answered in
      rw (e, v) record { number = same; first_is = sym (refused_value g _ first some) }
