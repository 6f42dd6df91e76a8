-- What a call can rely on where no number is met.
use Rattle.std.specs.Prelude.{◌≡◌, true, List, ℕ, ◌*◌, ◌≤◌, ◌<◌, length, get_or}
use Rattle.lists.specs.Numbers.{all_below}
use Rattle.generator.specs.declared.Header.{Header}
use Rattle.generator.specs.Records.{size, width, Sound}
use Rattle.generator.specs.Codewords.{is_word}
use Rattle.generator.specs.Messages.{message_of}
use Rattle.generator.specs.Claims.{are_nodes}
use Rattle.layout.specs.Layout.{lane_of, share_layout}
use Rattle.layout.specs.Width.{symbols_of}

-- rows of symbols in l lanes, over a sound header
pub record SymbolRows (h : Header) (rows l : ℕ) (s : List ℕ) : Type 0 where
  pub sound : Sound h
  pub some_lane : 0 < l
  pub few_lanes : l ≤ 4096
  pub long : length s ≡ rows * l
  pub symbols : all_below (size h) s ≡ true

-- a buffer of such rows as bytes
pub record SymbolBuffer (h : Header) (rows l : ℕ) (s : List ℕ) : Type 0 where
  pub bytes : length s ≡ rows * l * width h
  pub symbol_rows : SymbolRows h rows l (symbols_of (width h) s)

-- a lane of n symbols
pub record IsLane (h : Header) (us : List ℕ) : Type 0 where
  pub long : length us ≡ h.n
  pub symbols : all_below (size h) us ≡ true

-- shares of k different nodes
pub record ListedShares (h : Header) (l : ℕ) (nodes shares : List ℕ) : Type 0 where
  pub buffer : SymbolBuffer h h.k l shares
  pub different : are_nodes h nodes ≡ true

-- shares of which lane t holds symbols, and row r of the generator
pub record UpdatableLane (h : Header) (l r t : ℕ) (shares : List ℕ) : Type 0 where
  pub sound : Sound h
  pub few_lanes : l ≤ 4096
  pub row : r < h.k
  pub lane : t < l
  pub bytes : length shares ≡ h.n * l * width h
  pub symbols : all_below (size h) (lane_of share_layout h.n l t (symbols_of (width h) shares)) ≡ true

-- lane t is a word of the code, and its message holds `old` at number r
pub record FreshLane (h : Header) (l r t old : ℕ) (shares : List ℕ) : Type 0 where
  pub word : is_word h (lane_of share_layout h.n l t (symbols_of (width h) shares)) ≡ true
  pub holds : get_or (message_of h (lane_of share_layout h.n l t (symbols_of (width h) shares))) r 0 ≡ old
