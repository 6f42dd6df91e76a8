-- The single changes that make a lane a word, sentence by sentence: of the definition that `single_mends` promises, and of the call itself.
use Rattle.std.specs.Prelude.{Ok, Err}
use Rattle.generator.specs.Answers.{Answer}
use Rattle.std.specs.Prelude.{◌≡◌, List, ℕ, length}
use Rattle.layout.specs.Width.{bytes_of}
use Rattle.generator.specs.Records.{header_of, record_fault, width}
use Rattle.refusals.specs.Accepted.{IsLane}
use Rattle.mends.specs.Mends.{mend_nodes, mend_symbols, Mends}
use Rattle.mends.specs.Promise.{in_front, MendsSay}
use Rattle.demands.specs.Calls.{read}

pub record SingleMends : Type 0 where
  -- of every lane of an accepted record
  pub accepted : (rec : List ℕ) → record_fault rec ≡ 0 → (ws : List ℕ) → IsLane (header_of rec) ws → Mends (header_of rec) ws
  -- of the lane of a call that no number turned away: how many entries, both buffers afterwards, and what the list means
  pub call : (rec lane nodes symbols nodes' symbols' : List ℕ) (answer : Answer ℕ) → MendsSay rec lane nodes symbols nodes' symbols' answer → ((f : ℕ) → answer ≡ Err f → ⊥) →
      let h = header_of rec in
      let ws = read h lane in
      (answer ≡ Ok (length (mend_nodes h ws)))
      × (nodes' ≡ in_front (mend_nodes h ws) nodes)
      × (symbols' ≡ in_front (bytes_of (width h) (mend_symbols h ws)) symbols)
      × Mends h ws
