-- Blocks as the bytes of lent buffers: a symbol has `width` bytes, and shares are arranged as y says.
use Rattle.std.specs.Prelude.{◌≡◌, List, ℕ}
use Rattle.lists.specs.Counting.{differ}
use Rattle.layout.specs.Layout.{Arrangement, rearranged}
use Rattle.layout.specs.Width.{symbols_of, bytes_of}
use Rattle.generator.specs.declared.Header.{Header}
use Rattle.generator.specs.Records.{width}
use Rattle.blocks.specs.Blocks.{share_of, shares_of, updated, first_wrong, recovered, MessageFor}

-- the shares of a message
unfoldable pub encoded_bytes : Arrangement → Header → ℕ → List ℕ → List ℕ
encoded_bytes y h l message = bytes_of (width h) (shares_of y h l (symbols_of (width h) message))

-- the shares after an update, and how many symbols differ then
unfoldable pub updated_bytes : Arrangement → Header → ℕ → ℕ → ℕ → ℕ → ℕ → List ℕ → List ℕ
updated_bytes y h l r t old new shares = bytes_of (width h) (updated y h l r t old new (symbols_of (width h) shares))

unfoldable pub altered_count : Arrangement → Header → ℕ → ℕ → ℕ → ℕ → ℕ → List ℕ → ℕ
altered_count y h l r t old new shares = let s = symbols_of (width h) shares in differ s (updated y h l r t old new s)

-- the message of listed shares
unfoldable pub recovered_bytes : Arrangement → Header → ℕ → List ℕ → List ℕ → List ℕ
recovered_bytes y h l nodes shares = bytes_of (width h) (recovered y h l nodes (symbols_of (width h) shares))

-- the target's share of that message
unfoldable pub rebuilt_bytes : Arrangement → Header → ℕ → List ℕ → List ℕ → ℕ → List ℕ
rebuilt_bytes y h l nodes shares target = bytes_of (width h) (share_of h l (recovered y h l nodes (symbols_of (width h) shares)) target)

-- the law of both: out is the bytes of a message of the listed shares
unfoldable pub RecoveredBytes : Arrangement → Header → ℕ → List ℕ → List ℕ → List ℕ → Type 0
RecoveredBytes y h l nodes shares out = (m : List ℕ) × MessageFor y h l nodes (symbols_of (width h) shares) m × (out ≡ bytes_of (width h) m)

-- out is the bytes of the target's share of one
unfoldable pub RebuiltBytes : Arrangement → Header → ℕ → List ℕ → List ℕ → ℕ → List ℕ → Type 0
RebuiltBytes y h l nodes shares target out = (m : List ℕ) × MessageFor y h l nodes (symbols_of (width h) shares) m × (out ≡ bytes_of (width h) (share_of h l m target))

-- the smallest lane that is no word of the code, or l where all are
unfoldable pub wrong_lane : Arrangement → Header → ℕ → List ℕ → ℕ
wrong_lane y h l shares = first_wrong y h l (symbols_of (width h) shares)

-- a buffer of rows and lanes whose symbols are arranged as y says, arranged as z says
unfoldable pub rearranged_bytes : Arrangement → Arrangement → Header → ℕ → ℕ → List ℕ → List ℕ
rearranged_bytes y z h rows l s = bytes_of (width h) (rearranged y z rows l (symbols_of (width h) s))
