-- What the call promises: the list of a lane in two lent buffers, or the number that turns it away.
use Rattle.std.specs.Prelude.{Ok, Err}
use Rattle.generator.specs.Answers.{Answer, answer_of}
use Rattle.std.specs.Prelude.{◌≡◌, List, ◌++◌, ℕ, ◌*◌, eqb, length, drop}
use Rattle.lists.specs.Choice.{pick, first_of, when}
use Rattle.layout.specs.Width.{symbols_of, bytes_of}
use Rattle.generator.specs.declared.Header.{Header}
use Rattle.generator.specs.Records.{record_of, width}
use Rattle.refusals.specs.Conditions.{length_bad, symbols_bad}
use Rattle.refusals.specs.Promise.{OnRecord}
use Rattle.refusals.specs.Accepted.{IsLane}
use Rattle.mends.specs.Mends.{mend_nodes, mend_symbols, Mends}

-- numbers 8 and 11: the lane has n symbols, and the written buffers have n bytes and n symbols
unfoldable pub mends_fault : Header → List ℕ → ℕ → ℕ → ℕ
mends_fault h lane nodes_len symbols_len =
    first_of (when (length_bad (h.n * width h) (length lane)) 8)
    (first_of (when (length_bad h.n nodes_len) 8)
    (first_of (when (length_bad (h.n * width h) symbols_len) 8)
    (when (symbols_bad h lane) 11)))

-- a buffer with a list at its front: the places after it hold what they held
unfoldable pub in_front : List ℕ → List ℕ → List ℕ
in_front xs s = xs ++ drop (length xs) s

-- what holds of every lane of a record that was read
unfoldable pub Mended : Answer Header → Type 0
Mended (Ok h) = (ws : List ℕ) → IsLane h ws → Mends h ws
Mended (Err f) = Unit {0}

-- over a header and the number that turns the call away, 0 where none does: the answer, and both buffers afterwards
pub record MendsPromise (lane nodes symbols nodes' symbols' : List ℕ) (answer : Answer ℕ) (h : Header) (f : ℕ) : Type 0 where
  pub answered : answer ≡ answer_of f (length (mend_nodes h (symbols_of (width h) lane)))
  pub nodes_written : nodes' ≡ pick (eqb f 0) (in_front (mend_nodes h (symbols_of (width h) lane)) nodes) nodes
  pub symbols_written : symbols' ≡ pick (eqb f 0) (in_front (bytes_of (width h) (mend_symbols h (symbols_of (width h) lane))) symbols) symbols

-- what `single_mends` promises over the record as it is read, and what the list means
pub record MendsSay (rec lane nodes symbols nodes' symbols' : List ℕ) (answer : Answer ℕ) : Type 0 where
  pub listed : OnRecord rec (λ h. mends_fault h lane (length nodes) (length symbols)) (MendsPromise lane nodes symbols nodes' symbols' answer)
  pub claims : Mended (record_of rec)
