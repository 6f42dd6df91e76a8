-- What Encode promises: the numbers that turn it away, the answer and every lent byte afterwards, and the same over a record.
use Rattle.generator.specs.Answers.{Answer, outcome_of}
use Rattle.std.specs.Prelude.{List, ◌≡◌, ℕ, ◌*◌, length, eqb}
use Rattle.lists.specs.Choice.{first_of, when, pick}
use Rattle.layout.specs.Layout.{Arrangement, share_layout}
use Rattle.generator.specs.declared.Header.{Header}
use Rattle.generator.specs.Records.{width}
use Rattle.refusals.specs.Conditions.{lanes_bad, length_bad, symbols_bad}
use Rattle.refusals.specs.Promise.{OnRecord}
use Rattle.blocks.specs.Bytes.{encoded_bytes}

-- Encode reads a message and writes n shares
unfoldable pub encode_fault : Header → ℕ → ℕ → List ℕ → ℕ
encode_fault h l out_len message =
    first_of (when (lanes_bad l) 7)
    (first_of (when (length_bad (h.k * l * width h) (length message)) 8)
    (first_of (when (length_bad (h.n * l * width h) out_len) 8)
    (when (symbols_bad h message) 11)))

-- Encode: in each lane the encoding of the message
pub record EncodePromise (y : Arrangement) (l : ℕ) (message out out' : List ℕ) (answer : Answer (Unit {0})) (h : Header) (f : ℕ) : Type 0 where
  pub answered : answer ≡ outcome_of f
  pub written : out' ≡ pick (eqb f 0) (encoded_bytes y h l message) out

-- over the record as it is read, with shares arranged as y says
abbrev pub EncodeSaysIn : Arrangement → List ℕ → ℕ → List ℕ → List ℕ → List ℕ → Answer (Unit {0}) → Type 0
EncodeSaysIn y rec l message out out' answer = OnRecord rec (λ h. encode_fault h l (length out) message) (EncodePromise y l message out out' answer)

-- with shares as they stand in buffers
abbrev pub EncodeSays : List ℕ → ℕ → List ℕ → List ℕ → List ℕ → Answer (Unit {0}) → Type 0
EncodeSays = EncodeSaysIn share_layout
