-- What one bad read does to Rebuild: two accepted calls whose shares differ in one symbol.
use Rattle.std.specs.Prelude.{Ok}
use Rattle.std.specs.Prelude.{◌≡◌, false, List, ℕ, ◌<◌, get_or}
use Rattle.lists.specs.Numbers.{is_in}
use Rattle.layout.specs.Layout.{share_layout, held}
use Rattle.layout.specs.Width.{symbols_of}
use Rattle.generator.specs.declared.Header.{Header}
use Rattle.generator.specs.Records.{header_of, width}
use Rattle.recover.specs.Promise.{RebuildSays}

-- what the listed node at place i has read in lane t
unfoldable pub read_at : Header → ℕ → List ℕ → ℕ → ℕ → ℕ
read_at h l shares i t = held share_layout h.k l (symbols_of (width h) shares) i t

-- two buffers of listed shares differ at place i in lane t, and nowhere else
pub record OneOff (h : Header) (l i t : ℕ) (shares wrong : List ℕ) : Type 0 where
  pub place : i < h.k
  pub lane : t < l
  pub there : read_at h l wrong i t ≡ read_at h l shares i t → ⊥
  pub elsewhere : (i' t' : ℕ) → i' < h.k → t' < l → ((i' ≡ i) × (t' ≡ t) → ⊥) → read_at h l wrong i' t' ≡ read_at h l shares i' t'

-- what a rebuilt share has in lane t
unfoldable pub rebuilt_at : Header → List ℕ → ℕ → ℕ
rebuilt_at h out t = get_or (symbols_of (width h) out) t 0

-- the rebuilt share of a node outside the list has another symbol in that lane, and the same symbol in every other lane
pub record OneLaneOff (h : Header) (l t : ℕ) (out wrong : List ℕ) : Type 0 where
  pub there : rebuilt_at h wrong t ≡ rebuilt_at h out t → ⊥
  pub elsewhere : (t' : ℕ) → t' < l → (t' ≡ t → ⊥) → rebuilt_at h wrong t' ≡ rebuilt_at h out t'

-- of two calls of Rebuild that are done
abbrev pub BadRead : Type 0
BadRead = (rec : List ℕ) (l i t : ℕ) (nodes shares wrong : List ℕ) (target : ℕ) (out out' off off' : List ℕ) → RebuildSays rec l nodes shares target out out' (Ok tt) → RebuildSays rec l nodes wrong target off off' (Ok tt) → OneOff (header_of rec) l i t shares wrong → is_in target nodes ≡ false → OneLaneOff (header_of rec) l t out' off'
