-- A row of a message changes in every lane: what each node is told to add, over what Encode writes before and after.
use Rattle.std.specs.Prelude.{Ok}
use Rattle.std.specs.Prelude.{◌≡◌, List, [], ◌∷◌, ℕ, ◌+◌, ◌*◌, ◌%◌, ◌<◌, get_or, take, drop}
use Rattle.generator.specs.declared.Header.{Header}
use Rattle.generator.specs.Records.{header_of, distance, width}
use Rattle.generator.specs.Shifts.{firsts}
use Rattle.encode.specs.Promise.{EncodeSays}
use Rattle.differences.specs.Promise.{DifferencesSays, AddSays}
use Rattle.demands.specs.Calls.{read}
use Rattle.demands.specs.RoundTrips.{cut_of}

-- node j's stretch of a buffer that stands node after node
abbrev pub stretch_of : Header → ℕ → ℕ → List ℕ → List ℕ
stretch_of h l j s = take (l * width h) (drop (j * (l * width h)) s)

-- two messages that differ in row r alone: the first holds `old` there, the second `new`
pub record RowChanged (h : Header) (l r : ℕ) (old new message changed : List ℕ) : Type 0 where
  pub before : (t : ℕ) → t < l → get_or (read h message) (r * l + t) 0 ≡ get_or (read h old) t 0
  pub after : (t : ℕ) → t < l → get_or (read h changed) (r * l + t) 0 ≡ get_or (read h new) t 0
  pub others : (r' t : ℕ) → r' < h.k → t < l → (r' ≡ r → ⊥) → get_or (read h changed) (r' * l + t) 0 ≡ get_or (read h message) (r' * l + t) 0

pub record RowChanges : Type 0 where
  -- a node that holds its share of the message and adds its stretch then holds its share of the changed message
  pub adds : (rec : List ℕ) (l r : ℕ) (old new message changed out shares again shares' room room' : List ℕ) → RowChanged (header_of rec) l r old new message changed
      → EncodeSays rec l message out shares (Ok tt) → EncodeSays rec l changed again shares' (Ok tt) → DifferencesSays rec l r old new room room' (Ok tt)
      → (j : ℕ) → j < (header_of rec).n → (share : List ℕ) → AddSays rec l (stretch_of (header_of rec) l j room') (cut_of (header_of rec) l (j ∷ []) shares) share (Ok tt)
      → share ≡ cut_of (header_of rec) l (j ∷ []) shares'
  -- a node outside the d nodes of the row, which begin at its first node, has zeros to add
  pub outside : (rec : List ℕ) (l r : ℕ) (old new room room' : List ℕ) → DifferencesSays rec l r old new room room' (Ok tt)
      → (j : ℕ) → j < (header_of rec).n → ((i : ℕ) → i < distance (header_of rec) → (get_or (firsts (header_of rec)) r 0 + i) % (header_of rec).n ≡ j → ⊥)
      → (t : ℕ) → t < l → get_or (read (header_of rec) (stretch_of (header_of rec) l j room')) t 0 ≡ 0
