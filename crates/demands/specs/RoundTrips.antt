-- Calls one after the other, in bytes: what Encode wrote is cut, altered or updated, and another call reads that.
use Rattle.std.specs.Prelude.{Ok}
use Rattle.std.specs.Prelude.{◌≡◌, true, List, [], ◌∷◌, ℕ, ◌+◌, ◌-◌, ◌*◌, ◌/◌, ◌≤◌, ◌<◌, length, get_or, set}
use Rattle.lists.specs.Counting.{differ}
use Rattle.lists.specs.Numbers.{all_below}
use Rattle.layout.specs.Layout.{held, buffer, share_layout}
use Rattle.layout.specs.Width.{bytes_of}
use Rattle.generator.specs.declared.Header.{Header}
use Rattle.generator.specs.Records.{header_of, width}
use Rattle.recover.specs.Promise.{RecoverSays, RebuildSays}
use Rattle.update.specs.Promise.{UpdateSays}
use Rattle.encode.specs.Promise.{EncodeSays}
use Rattle.demands.specs.LaneAfterLane.{Full}
use Rattle.correct.specs.Promise.{CorrectSays}
use Rattle.correct.specs.Meaning.{lane_in}
use Rattle.demands.specs.Calls.{read}

-- the listed nodes' symbols, cut out of the shares of all nodes: in each lane one after the other
unfoldable pub cut_of : Header → ℕ → List ℕ → List ℕ → List ℕ
cut_of h l nodes shares = bytes_of (width h) (buffer share_layout (length nodes) l (λ i t. held share_layout h.n l (read h shares) (get_or nodes i 0) t))

-- a message with another symbol at number r of lane t
unfoldable pub with_symbol : Header → ℕ → ℕ → ℕ → ℕ → List ℕ → List ℕ
with_symbol h l r t new message = bytes_of (width h) (set (read h message) (r * l + t) new)

-- in each lane at most the whole part of (n − k)/2 symbols are wrong
abbrev pub FewWrong : Header → ℕ → List ℕ → List ℕ → Type 0
FewWrong h l shares wrong = (t : ℕ) → t < l → differ (lane_in h l wrong t) (lane_in h l shares t) ≤ (h.n - h.k) / 2

pub record RoundTrips : Type 0 where
  -- what is cut out has each listed node's symbol of each lane ..
  pub cut_long : (h : Header) (l : ℕ) (nodes shares : List ℕ) → length (cut_of h l nodes shares) ≡ length nodes * l * width h
  -- .. and byte by byte, that of the node at place i of k stands in lane t at t·k + i, as it stands at t·n + the node in the shares
  pub cut : (h : Header) (l : ℕ) (nodes shares : List ℕ) → Full h h.n l shares → all_below 256 shares ≡ true → (i t byte : ℕ) → i < length nodes → get_or nodes i 0 < h.n → t < l → byte < width h
      → get_or (cut_of h l nodes shares) ((t * length nodes + i) * width h + byte) 0 ≡ get_or shares ((t * h.n + get_or nodes i 0) * width h + byte) 0
  -- Recover from listed nodes' symbols of what Encode wrote: the bytes that were encoded
  pub recover : (rec : List ℕ) (l : ℕ) (message out shares nodes back back' : List ℕ) → all_below 256 message ≡ true
      → EncodeSays rec l message out shares (Ok tt) → RecoverSays rec l nodes (cut_of (header_of rec) l nodes shares) back back' (Ok tt)
      → back' ≡ message
  -- Rebuild from them: the target's own symbols of what Encode wrote
  pub rebuild : (rec : List ℕ) (l : ℕ) (message out shares nodes : List ℕ) (target : ℕ) (back back' : List ℕ)
      → EncodeSays rec l message out shares (Ok tt) → RebuildSays rec l nodes (cut_of (header_of rec) l nodes shares) target back back' (Ok tt)
      → back' ≡ cut_of (header_of rec) l (target ∷ []) shares
  -- setting right where few symbols are wrong: what Encode wrote
  pub correct : (rec : List ℕ) (l : ℕ) (message out shares wrong wrong' : List ℕ) (count : ℕ)
      → EncodeSays rec l message out shares (Ok tt) → FewWrong (header_of rec) l shares wrong → CorrectSays rec l wrong wrong' (Ok count)
      → wrong' ≡ shares
  -- Update of what Encode wrote: what Encode writes of the message with the new symbol
  pub update : (rec : List ℕ) (l r t old new : ℕ) (message out shares shares' again again' : List ℕ) (count : ℕ)
      → EncodeSays rec l message out shares (Ok tt) → UpdateSays rec l r t old new shares shares' (Ok count) → EncodeSays rec l (with_symbol (header_of rec) l r t new message) again again' (Ok tt)
      → shares' ≡ again'
