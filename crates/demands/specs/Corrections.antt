-- Setting right, sentence by sentence: of the code, and of the call, whatever the record.
use Rattle.std.specs.Prelude.{Option, None, Ok, Err}
use Rattle.generator.specs.Answers.{Answer}
use Rattle.std.specs.Prelude.{◌≡◌, ◌↔◌, true, List, ℕ, ◌+◌, ◌≤◌, ◌<◌, length}
use Rattle.lists.specs.Counting.{differ}
use Rattle.lists.specs.Numbers.{all_below}
use Rattle.layout.specs.Layout.{row_after_row}
use Rattle.layout.specs.Width.{symbols_of}
use Rattle.generator.specs.Records.{header_of, record_fault, size, width, distance}
use Rattle.generator.specs.Claims.{Codeword}
use Rattle.refusals.specs.Faults.{fault_of}
use Rattle.belongs.specs.Promise.{belongs_fault, BelongsSays}
use Rattle.demands.specs.LaneAfterLane.{to_lanes, Full}
use Rattle.correct.specs.Promise.{CorrectSaysIn, CorrectSays}
use Rattle.correct.specs.Meaning.{NearWord, lane_in, CorrectDone}

pub record Corrections : Type 0 where
  -- two words that differ somewhere differ at d nodes or more
  pub apart : (rec : List ℕ) → record_fault rec ≡ 0 → (us vs : List ℕ) →
      let h = header_of rec in
      length us ≡ h.n → length vs ≡ h.n → all_below (size h) us ≡ true → all_below (size h) vs ≡ true → Codeword h us → Codeword h vs → (us ≡ vs → ⊥) → distance h ≤ differ us vs
  -- so at most one is within (n − k)/2 nodes of a lane
  pub one : (rec : List ℕ) → record_fault rec ≡ 0 → (ws us vs : List ℕ) → length ws ≡ (header_of rec).n → NearWord (header_of rec) ws us → NearWord (header_of rec) ws vs → us ≡ vs
  -- a block that was set right: each lane is that word, the count is of the places where the buffers differ, a word stays
  pub done : (rec : List ℕ) (l : ℕ) (shares shares' : List ℕ) (count : ℕ) → CorrectSays rec l shares shares' (Ok count) → CorrectDone (header_of rec) l shares shares' count
  -- and Belongs says yes
  pub belongs : (rec : List ℕ) (l : ℕ) (shares shares' : List ℕ) (count : ℕ) → CorrectSays rec l shares shares' (Ok count) → (answer : Answer (Option ℕ)) → BelongsSays rec l shares' answer → answer ≡ Ok None
  -- number 14 is given exactly if no number before it is, and some lane has no word that near
  pub refused : (rec : List ℕ) (l : ℕ) (shares shares' : List ℕ) (answer : Answer ℕ) → CorrectSays rec l shares shares' answer →
      (answer ≡ Err 14) ↔ ((fault_of rec (λ h. belongs_fault h l shares) ≡ 0) × ((t : ℕ) × (t < l) × ((us : List ℕ) → NearWord (header_of rec) (lane_in (header_of rec) l shares t) us → ⊥)))
  -- beside any number no lane is touched
  pub untouched : (rec : List ℕ) (l : ℕ) (shares shares' : List ℕ) (f : ℕ) → CorrectSays rec l shares shares' (Err f) → shares' ≡ shares
  -- for k = n and k = n − 1 only words of the code pass
  pub exact : (rec : List ℕ) (l : ℕ) (shares shares' : List ℕ) (count : ℕ) → (header_of rec).n ≤ (header_of rec).k + 1 → CorrectSays rec l shares shares' (Ok count) → ((t : ℕ) → t < l → Codeword (header_of rec) (lane_in (header_of rec) l shares t)) × (symbols_of (width (header_of rec)) shares' ≡ symbols_of (width (header_of rec)) shares) × (count ≡ 0)
  -- lane after lane beside node after node: the same answer with its count, and the old shares rearranged
  pub lanes : (rec : List ℕ) (l : ℕ) (s s' now : List ℕ) (answer answer' : Answer ℕ) → Full (header_of rec) (header_of rec).n l s
      → CorrectSaysIn row_after_row rec l s s' answer → CorrectSays rec l (to_lanes (header_of rec) (header_of rec).n l s) now answer'
      → (answer' ≡ answer) × (now ≡ to_lanes (header_of rec) (header_of rec).n l s')
