-- Rows of 64 lanes put beside the lanes that rows of a tile hold already.
use Rattle.std.specs.Prelude.{◌≡◌, List, ℕ, ◌+◌, ◌*◌, ◌<◌, length, get_or}

-- in the rows below r the `count` lanes from lane `first` on are those of the block, and in every row the lanes before are as they were
pub record Beside (lanes first count r : ℕ) (block start now : List ℕ) : Type 0 where
  pub long : length now ≡ length start
  pub put : (i q : ℕ) → i < r → q < count → get_or now (i * lanes + (first + q)) 0 ≡ get_or block (i * 64 + q) 0
  pub kept : (i t : ℕ) → t < first → get_or now (i * lanes + t) 0 ≡ get_or start (i * lanes + t) 0
