-- What a writer has room for, and what a write does.
use Rattle.std.specs.Prelude.{◌≡◌, List, ℕ, ◌+◌, ◌-◌, length}
use Rattle.std.specs.Borrow.{MutBor}
use Rattle.text.specs.Inner.Writing.{Puts}
use Rattle.text.specs.declared.Writer.{Writer}

-- how many bytes may still be written
unfoldable pub room : Writer → ℕ
room w = length w.page.now - w.end

-- the writer writes on a page that is lent, from a place on
pub record Begins (page : MutBor (List ℕ)) (place : ℕ) (w : Writer) : Type 0 where
  pub same_page : w.page.ghost_name ≡ page.ghost_name
  pub bytes : w.page.now ≡ page.now
  pub end : w.end ≡ place

-- the writer writes on the page that it wrote on, and a text was put behind what it had written, which took its length of the room
pub record Writes (before after : Writer) (text : List ℕ) : Type 0 where
  pub same_page : after.page.ghost_name ≡ before.page.ghost_name
  pub puts : Puts before.page.now after.page.now before.end after.end text
  pub room : room before ≡ room after + length text
