-- Demand 3's sentence on updates, over the definitions that the calls promise, and what numbers 12 and 13 say.
use Rattle.std.specs.Prelude.{◌≡◌, ◌↔◌, true, List, ℕ, ◌<◌, eqb, get_or, set}
use Rattle.lists.specs.Choice.{pick}
use Rattle.lists.specs.Counting.{differ}
use Rattle.layout.specs.Layout.{held, lane_of, share_layout}
use Rattle.layout.specs.Width.{symbols_of}
use Rattle.generator.specs.declared.Header.{Header}
use Rattle.generator.specs.Records.{distance, width}
use Rattle.generator.specs.Codewords.{encoding}
use Rattle.generator.specs.Claims.{is_message, Codeword}
use Rattle.update.specs.Promise.{input_fault, update_fault}
use Rattle.blocks.specs.Blocks.{updated}

-- lane t of the shares s encoded the message ms, and symbol r of it became `new`: the shares s' afterwards, whatever the other lanes hold
pub record Afterwards (h : Header) (ms s s' : List ℕ) (l r t new : ℕ) : Type 0 where
  -- the lane encodes the new message
  pub lane : lane_of share_layout h.n l t s' ≡ encoding h (set ms r new)
  -- the nodes that are altered are those where the two encodings differ ..
  pub nodes : (j : ℕ) → j < h.n → eqb (held share_layout h.n l s j t) (held share_layout h.n l s' j t) ≡ eqb (get_or (encoding h ms) j 0) (get_or (encoding h (set ms r new)) j 0)
  -- .. so their number is how many symbols differ
  pub altered : differ s s' ≡ differ (encoding h ms) (encoding h (set ms r new))
  -- n − k + 1, or none where old and new are equal
  pub count : differ s s' ≡ pick (eqb new (get_or ms r 0)) 0 (distance h)
  -- no other lane is altered
  pub others : (t' : ℕ) → t' < l → (t' ≡ t → ⊥) → lane_of share_layout h.n l t' s' ≡ lane_of share_layout h.n l t' s

-- an update that was accepted, with nothing asked beside that
pub record Updated (h : Header) (s s' : List ℕ) (l r t old new : ℕ) : Type 0 where
  -- the lane encoded a message, and no other one ..
  pub message : List ℕ
  pub is_the_message : is_message h message ≡ true
  pub encoded : lane_of share_layout h.n l t s ≡ encoding h message
  pub only : (ms : List ℕ) → is_message h ms ≡ true → lane_of share_layout h.n l t s ≡ encoding h ms → ms ≡ message
  -- .. which held the old symbol
  pub held_old : get_or message r 0 ≡ old
  pub after : Afterwards h message s s' l r t new

-- the lane that an update is to change, as symbols
abbrev pub lane_for : Header → ℕ → ℕ → List ℕ → List ℕ
lane_for h l t shares = lane_of share_layout h.n l t (symbols_of (width h) shares)

-- for the header of an accepted record
pub record UpdateDemands (h : Header) : Type 0 where
  -- an update that no number turns away
  pub updates : (shares : List ℕ) (l r t old new : ℕ) → update_fault share_layout h l r t old new shares ≡ 0 → Updated h (symbols_of (width h) shares) (updated share_layout h l r t old new (symbols_of (width h) shares)) l r t old new
  -- where numbers 7 to 11 are not met: number 12 just for a lane that is no word of the code ..
  pub no_such_word : (shares : List ℕ) (l r t old new : ℕ) → input_fault share_layout h l r t old new shares ≡ 0 → (update_fault share_layout h l r t old new shares ≡ 12) ↔ (Codeword h (lane_for h l t shares) → ⊥)
  -- .. and number 13 just for one that encodes a message with another symbol than the old one
  pub another_symbol : (shares : List ℕ) (l r t old new : ℕ) → input_fault share_layout h l r t old new shares ≡ 0 → (update_fault share_layout h l r t old new shares ≡ 13) ↔ ((ms : List ℕ) × (is_message h ms ≡ true) × (encoding h ms ≡ lane_for h l t shares) × (get_or ms r 0 ≡ old → ⊥))
