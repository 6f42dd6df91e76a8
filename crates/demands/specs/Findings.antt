-- Which update it was, sentence by sentence: of the definition that `find_update` promises, of the call itself, and after an update.
use Rattle.std.specs.Prelude.{◌≡◌, Ok, Err, ◌↔◌, ◌≢◌, true, List, ℕ, ◌<◌}
use Rattle.lists.specs.Numbers.{all_below}
use Rattle.layout.specs.Layout.{lane_of, share_layout}
use Rattle.field.specs.Fields.{sub}
use Rattle.generator.specs.declared.Header.{Header}
use Rattle.generator.specs.Answers.{Answer}
use Rattle.generator.specs.Records.{header_of, record_fault, modulus_of, size}
use Rattle.blocks.specs.Blocks.{updated, word_added}
use Rattle.find_update.specs.declared.Finding.{Finding}
use Rattle.find_update.specs.declared.Finding.TheVariants.{Added}
use Rattle.refusals.specs.Accepted.{IsLane}
use Rattle.find_update.specs.Finding.{finding_of, Finds}
use Rattle.find_update.specs.Numbers.{case_of, found_symbol, found_amount}
use Rattle.find_update.specs.Promise.{FindSays}
use Rattle.demands.specs.Calls.{read}

-- a finding in numbers, as the interface for C gives it: 0 for equal lanes, 1 for an update that was found, 2 where there is none
pub record InNumbers (h : Header) (us vs : List ℕ) (found symbol amount : ℕ) : Type 0 where
  pub unchanged : (found ≡ 0) ↔ (us ≡ vs)
  pub one : (found ≡ 1) ↔ ((us ≢ vs) × ((r : ℕ) × (x : ℕ) × (r < h.k) × (x < size h) × (word_added h r x us ≡ vs)))
  pub none : (found ≡ 2) ↔ ((us ≢ vs) × ((r x : ℕ) → r < h.k → x < size h → word_added h r x us ≡ vs → ⊥))
  -- the symbol and the amount; 0 where none was found
  pub update : found ≡ 1 → (symbol < h.k) × (amount < size h) × (word_added h symbol amount us ≡ vs)
  pub zeros : found ≢ 1 → (symbol ≡ 0) × (amount ≡ 0)

pub record Findings : Type 0 where
  -- of every two lanes of an accepted record
  pub accepted : (rec : List ℕ) → record_fault rec ≡ 0 → (us vs : List ℕ) → IsLane (header_of rec) us → IsLane (header_of rec) vs → Finds (header_of rec) us vs
  pub numbers : (rec : List ℕ) → record_fault rec ≡ 0 → (us vs : List ℕ) → IsLane (header_of rec) us → IsLane (header_of rec) vs →
      let found = finding_of (header_of rec) us vs in
      InNumbers (header_of rec) us vs (case_of found) (found_symbol found) (found_amount found)
  -- of the two lanes of a call that no number turned away
  pub call : (rec before after : List ℕ) (answer : Answer Finding) → FindSays rec before after answer → ((f : ℕ) → answer ≡ Err f → ⊥) →
      let h = header_of rec in
      (answer ≡ Ok (finding_of h (read h before) (read h after))) × Finds h (read h before) (read h after)
  -- an update of a lane of symbols to another symbol is found again
  pub again : (rec : List ℕ) → record_fault rec ≡ 0 → (l r t old new : ℕ) (s : List ℕ) →
      let h = header_of rec in
      let lane = lane_of share_layout h.n l t in
      all_below (size h) (lane s) ≡ true → r < h.k → t < l → old < size h → new < size h → (new ≡ old → ⊥) → finding_of h (lane s) (lane (updated share_layout h l r t old new s)) ≡ Added r (sub (modulus_of h) new old)
