-- Listed shares of which some are wrong, sentence by sentence: of the code, and of the calls, whatever the record.
use Rattle.std.specs.Prelude.{Ok, Err}
use Rattle.generator.specs.Answers.{Answer}
use Rattle.std.specs.Prelude.{◌≡◌, ◌↔◌, true, List, ℕ, ◌*◌, ◌≤◌, ◌<◌, length, get_or}
use Rattle.lists.specs.Numbers.{all_below, distinct}
use Rattle.lists.specs.Rows.{range}
use Rattle.generator.specs.Records.{header_of, record_fault, size, width}
use Rattle.recover.specs.Promise.{RecoverSays}
use Rattle.encode.specs.Promise.{EncodeSays}
use Rattle.correct.specs.Promise.{CorrectSays}
use Rattle.correct_listed.specs.Promise.{CorrectListedSays}
use Rattle.correct_listed.specs.Meaning.{NearMessage, CorrectListedDone}

pub record ListedCorrections : Type 0 where
  -- at most one message is within (s − k)/2 of the symbols of s listed nodes
  pub one : (rec : List ℕ) → record_fault rec ≡ 0 → (nodes ys ms us : List ℕ) →
      let h = header_of rec in
      all_below h.n nodes ≡ true → distinct nodes ≡ true → h.k ≤ length nodes → length ys ≡ length nodes → all_below (size h) ys ≡ true → NearMessage h nodes ys ms → NearMessage h nodes ys us → ms ≡ us
  -- a call that was done: in each lane that message was written, the counts are of the lanes in which a place was wrong, and the answer is their sum
  pub done : (rec : List ℕ) (l : ℕ) (nodes shares out out' wrong wrong' : List ℕ) (total : ℕ) → CorrectListedSays rec l nodes shares out out' wrong wrong' (Ok total) → CorrectListedDone (header_of rec) l nodes shares out' wrong' total
  -- with k nodes it is Recover: the same message, no place is wrong ..
  pub recovers : (rec : List ℕ) (l : ℕ) (nodes shares out out' room message wrong wrong' : List ℕ) (total : ℕ) → length nodes ≡ (header_of rec).k
      → CorrectListedSays rec l nodes shares out out' wrong wrong' (Ok total) → RecoverSays rec l nodes shares room message (Ok tt) → (out' ≡ message) × ((i : ℕ) → i < length nodes → get_or wrong' i 0 ≡ 0)
  -- .. and the same number, where there is a count for each node
  pub recover_alike : (rec : List ℕ) (l : ℕ) (nodes shares out out' room message wrong wrong' : List ℕ) (a : Answer ℕ) (b : Answer (Unit {0})) → length nodes ≡ (header_of rec).k → length room ≡ length out → length wrong ≡ length nodes
      → CorrectListedSays rec l nodes shares out out' wrong wrong' a → RecoverSays rec l nodes shares room message b → (f : ℕ) → (a ≡ Err f) ↔ (b ≡ Err f)
  -- with all n nodes in order it is Correct: the message's encoding is what Correct makes of the shares ..
  pub whole : (rec : List ℕ) (l : ℕ) (shares shares' out out' room again wrong wrong' : List ℕ) (total count : ℕ)
      → CorrectListedSays rec l (range 0 (header_of rec).n) shares out out' wrong wrong' (Ok total) → CorrectSays rec l shares shares' (Ok count) → EncodeSays rec l out' room again (Ok tt) → again ≡ shares'
  -- .. and the same number, where the message and the counts have room
  pub whole_alike : (rec : List ℕ) (l : ℕ) (shares shares' out out' wrong wrong' : List ℕ) (a b : Answer ℕ) → length out ≡ (header_of rec).k * l * width (header_of rec) → length wrong ≡ (header_of rec).n
      → CorrectListedSays rec l (range 0 (header_of rec).n) shares out out' wrong wrong' a → CorrectSays rec l shares shares' b → (f : ℕ) → (a ≡ Err f) ↔ (b ≡ Err f)
