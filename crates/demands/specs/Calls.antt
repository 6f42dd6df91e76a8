-- Demands 2 and 3 of the calls themselves: what follows from the promise of a call that no number turned away. Buffers are read as symbols.
use Rattle.std.specs.Prelude.{Some, None, Ok}
use Rattle.std.specs.Prelude.{◌≡◌, List, ℕ, ◌<◌, length, get_or}
use Rattle.lists.specs.Counting.{differ}
use Rattle.layout.specs.Layout.{row_after_row, lane_of, share_layout}
use Rattle.layout.specs.Width.{symbols_of}
use Rattle.generator.specs.declared.Header.{Header}
use Rattle.generator.specs.Records.{header_of, width}
use Rattle.generator.specs.Codewords.{encoding}
use Rattle.generator.specs.Claims.{Codeword}
use Rattle.blocks.specs.Blocks.{gathered, MessageFor}
use Rattle.belongs.specs.Promise.{BelongsSays}
use Rattle.recover.specs.Promise.{RecoverSays, RebuildSays}
use Rattle.update.specs.Promise.{UpdateSays}
use Rattle.encode.specs.Promise.{EncodeSays}
use Rattle.demands.specs.Coding.{Symbols}
use Rattle.demands.specs.Updates.{Updated}

-- the symbols of a lent buffer
abbrev pub read : Header → List ℕ → List ℕ
read h s = symbols_of (width h) s

-- Encode is done: in each lane of the shares the encoding of that lane's message, a word of the code
pub record EncodeDone (h : Header) (l : ℕ) (message shares : List ℕ) : Type 0 where
  pub lanes : (t : ℕ) → t < l → lane_of share_layout h.n l t (read h shares) ≡ encoding h (lane_of row_after_row h.k l t (read h message))
  pub words : (t : ℕ) → t < l → Codeword h (lane_of share_layout h.n l t (read h shares))

-- Recover is done: the message that encodes to the listed shares, the only one; so from shares of an encoding the message that was encoded
pub record RecoverDone (h : Header) (l : ℕ) (nodes shares message : List ℕ) : Type 0 where
  pub encodes : MessageFor share_layout h l nodes (read h shares) (read h message)
  pub one : (m : List ℕ) → MessageFor share_layout h l nodes (read h shares) m → m ≡ read h message
  pub returns : (m : List ℕ) → Symbols h h.k l m → read h shares ≡ gathered share_layout h l nodes m → read h message ≡ m

-- Rebuild is done: the target's share of the encoding of that message
pub record RebuildDone (h : Header) (l : ℕ) (nodes shares : List ℕ) (target : ℕ) (share : List ℕ) : Type 0 where
  pub some : (m : List ℕ) × MessageFor share_layout h l nodes (read h shares) m
  pub long : length (read h share) ≡ l
  pub symbols : (m : List ℕ) → MessageFor share_layout h l nodes (read h shares) m → (t : ℕ) → t < l → get_or (read h share) t 0 ≡ get_or (encoding h (lane_of row_after_row h.k l t m)) target 0

-- Belongs says yes: every lane is a word of the code
abbrev pub AllWords : Header → ℕ → List ℕ → Type 0
AllWords h l shares = (t : ℕ) → t < l → Codeword h (lane_of share_layout h.n l t (read h shares))

-- it names a lane: the smallest that is none
pub record SmallestWrong (h : Header) (l : ℕ) (shares : List ℕ) (wrong : ℕ) : Type 0 where
  pub lane : wrong < l
  pub no_such_word : Codeword h (lane_of share_layout h.n l wrong (read h shares)) → ⊥
  pub smaller : (t : ℕ) → t < wrong → Codeword h (lane_of share_layout h.n l t (read h shares))

-- Update is done: the one message that the lane encoded held the old symbol, and the lane encodes it with the new one
pub record UpdateDone (h : Header) (shares shares' : List ℕ) (l r t old new count : ℕ) : Type 0 where
  pub change : Updated h (read h shares) (read h shares') l r t old new
  -- the count is the number of altered nodes
  pub reports : count ≡ differ (read h shares) (read h shares')

-- the calls, whatever the record
pub record CallDemands : Type 0 where
  pub encode : (rec : List ℕ) (l : ℕ) (message out out' : List ℕ) → EncodeSays rec l message out out' (Ok tt) → EncodeDone (header_of rec) l message out'
  pub recover : (rec : List ℕ) (l : ℕ) (nodes shares out out' : List ℕ) → RecoverSays rec l nodes shares out out' (Ok tt) → RecoverDone (header_of rec) l nodes shares out'
  pub rebuild : (rec : List ℕ) (l : ℕ) (nodes shares : List ℕ) (target : ℕ) (out out' : List ℕ) → RebuildSays rec l nodes shares target out out' (Ok tt) → RebuildDone (header_of rec) l nodes shares target out'
  pub passes : (rec : List ℕ) (l : ℕ) (shares : List ℕ) → BelongsSays rec l shares (Ok None) → AllWords (header_of rec) l shares
  pub names : (rec : List ℕ) (l : ℕ) (shares : List ℕ) (wrong : ℕ) → BelongsSays rec l shares (Ok (Some wrong)) → SmallestWrong (header_of rec) l shares wrong
  pub update : (rec : List ℕ) (l r t old new : ℕ) (shares shares' : List ℕ) (count : ℕ) → UpdateSays rec l r t old new shares shares' (Ok count) → UpdateDone (header_of rec) shares shares' l r t old new count
