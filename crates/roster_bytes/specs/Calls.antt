-- What the calls of a roster on lent bytes promise: the number, and every lent byte and number afterwards.
use Rattle.std.specs.Prelude.{◌≡◌, Ok, Err, Bool, ◌&&◌, not, List, ℕ, eqb, leb, length}
use Rattle.lists.specs.Choice.{pick, first_of, when}
use Rattle.generator.specs.Answers.{Answer}
use Rattle.generator.specs.Records.{header_of, record_fault, record_of}
use Rattle.roster.specs.declared.Listing.{Listing}
use Rattle.roster.specs.declared.Listing.TheVariants.{Written, TooFew}
use Rattle.roster.specs.Events.{Event, named, says}
use Rattle.roster.specs.Rosters.{present_of, start_of, event_fault, lowest_list, job_of, job_list}
use Rattle.roster_bytes.specs.Bytes.{roster_of, roster_bytes, event_bytes}

-- number 8: the roster has another length than 256
unfoldable pub roster_room_fault : ℕ → ℕ
roster_room_fault bytes_len = when (not (eqb bytes_len 256)) 8

-- the start: the bytes are written beside a number too, and are then those of a roster with no node
pub record StartGives (rec bytes bytes' : List ℕ) (f : ℕ) : Type 0 where
  pub number : f ≡ first_of (record_fault rec) (roster_room_fault (length bytes))
  pub bytes_are : bytes' ≡ pick (eqb (length bytes) 256) (roster_bytes (start_of (record_of rec)).roster) bytes

-- an event: the bytes of the next roster, or the same beside a number
pub record EventGives (rec bytes : List ℕ) (ev : Event) (bytes' : List ℕ) (f : ℕ) : Type 0 where
  pub number : f ≡ first_of (record_fault rec) (first_of (roster_room_fault (length bytes)) (event_fault (header_of rec).n (named ev) (says ev) (roster_of bytes).marks))
  pub bytes_are : bytes' ≡ pick (eqb (length bytes) 256) (event_bytes rec ev bytes) bytes

-- the number of the query and of a job: the record's, then 8 for the roster or the list
unfoldable pub listing_fault : List ℕ → ℕ → ℕ → ℕ
listing_fault rec bytes_len list_len = first_of (record_fault rec) (when (not (eqb bytes_len 256 && eqb list_len (header_of rec).k)) 8)

-- whether k nodes are present on the roster that bytes hold
unfoldable pub is_enough : List ℕ → List ℕ → Bool
is_enough rec bytes = leb (header_of rec).k (length (present_of (header_of rec).n (roster_of bytes).marks))

-- what `enough` receives: 1 where the list was written, 0 where too few nodes are present
unfoldable pub told_of : Answer Listing → ℕ → ℕ
told_of (Ok Written) enough = 1
told_of (Ok TooFew) enough = 0
told_of (Err f) enough = enough

-- the query: whether k nodes are present, and the list afterwards; both as they were beside a number
pub record LowestGives (rec bytes list : List ℕ) (enough : ℕ) (list' : List ℕ) (enough' f : ℕ) : Type 0 where
  pub number : f ≡ listing_fault rec (length bytes) (length list)
  pub list_is : list' ≡ pick (eqb f 0) (lowest_list (record_of rec) (roster_of bytes) list) list
  pub enough_is : enough' ≡ pick (eqb f 0) (when (is_enough rec bytes) 1) enough

-- a job: the same with its list; the roster moves on where the list is written, else its bytes are the same
pub record JobGives (rec bytes list : List ℕ) (enough : ℕ) (bytes' list' : List ℕ) (enough' f : ℕ) : Type 0 where
  pub number : f ≡ listing_fault rec (length bytes) (length list)
  pub list_is : list' ≡ pick (eqb f 0) (job_list (record_of rec) (roster_of bytes) list) list
  pub enough_is : enough' ≡ pick (eqb f 0) (when (is_enough rec bytes) 1) enough
  pub bytes_are : bytes' ≡ pick (eqb f 0 && is_enough rec bytes) (roster_bytes (job_of (record_of rec) (roster_of bytes) list).roster) bytes
