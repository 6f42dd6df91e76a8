-- What Recover and Rebuild promise: the numbers that turn them away, the answer and every lent byte afterwards, and the same over a record.
use Rattle.generator.specs.Answers.{Answer, outcome_of}
use Rattle.std.specs.Prelude.{List, ◌≡◌, ℕ, ◌*◌, length, eqb}
use Rattle.lists.specs.Choice.{first_of, when, pick}
use Rattle.layout.specs.Layout.{Arrangement, share_layout}
use Rattle.generator.specs.declared.Header.{Header}
use Rattle.generator.specs.Records.{width}
use Rattle.refusals.specs.Conditions.{lanes_bad, length_bad, number_bad}
use Rattle.refusals.specs.Faults.{list_fault}
use Rattle.refusals.specs.Promise.{OnRecord}
use Rattle.blocks.specs.Bytes.{recovered_bytes, rebuilt_bytes}

-- Recover reads listed shares and writes a message
unfoldable pub recover_fault : Header → ℕ → List ℕ → List ℕ → ℕ → ℕ
recover_fault h l nodes shares out_len =
    first_of (when (lanes_bad l) 7)
    (first_of (when (length_bad h.k (length nodes)) 8)
    (first_of (when (length_bad (h.k * l * width h) (length shares)) 8)
    (first_of (when (length_bad (h.k * l * width h) out_len) 8)
    (list_fault h nodes shares))))

-- Rebuild reads listed shares and writes the share of a target
unfoldable pub rebuild_fault : Header → ℕ → List ℕ → List ℕ → ℕ → ℕ → ℕ
rebuild_fault h l nodes shares target out_len =
    first_of (when (lanes_bad l) 7)
    (first_of (when (length_bad h.k (length nodes)) 8)
    (first_of (when (length_bad (h.k * l * width h) (length shares)) 8)
    (first_of (when (length_bad (l * width h) out_len) 8)
    (first_of (when (number_bad h.n target) 9)
    (list_fault h nodes shares)))))

-- Recover: the message of the listed shares
pub record RecoverPromise (y : Arrangement) (l : ℕ) (nodes shares out out' : List ℕ) (answer : Answer (Unit {0})) (h : Header) (f : ℕ) : Type 0 where
  pub answered : answer ≡ outcome_of f
  pub written : out' ≡ pick (eqb f 0) (recovered_bytes y h l nodes shares) out

-- Rebuild: the target's share of the encoding of that message
pub record RebuildPromise (y : Arrangement) (l : ℕ) (nodes shares : List ℕ) (target : ℕ) (out out' : List ℕ) (answer : Answer (Unit {0})) (h : Header) (f : ℕ) : Type 0 where
  pub answered : answer ≡ outcome_of f
  pub written : out' ≡ pick (eqb f 0) (rebuilt_bytes y h l nodes shares target) out

abbrev pub RecoverSaysIn : Arrangement → List ℕ → ℕ → List ℕ → List ℕ → List ℕ → List ℕ → Answer (Unit {0}) → Type 0
RecoverSaysIn y rec l nodes shares out out' answer = OnRecord rec (λ h. recover_fault h l nodes shares (length out)) (RecoverPromise y l nodes shares out out' answer)

abbrev pub RebuildSaysIn : Arrangement → List ℕ → ℕ → List ℕ → List ℕ → ℕ → List ℕ → List ℕ → Answer (Unit {0}) → Type 0
RebuildSaysIn y rec l nodes shares target out out' answer = OnRecord rec (λ h. rebuild_fault h l nodes shares target (length out)) (RebuildPromise y l nodes shares target out out' answer)

abbrev pub RecoverSays : List ℕ → ℕ → List ℕ → List ℕ → List ℕ → List ℕ → Answer (Unit {0}) → Type 0
RecoverSays = RecoverSaysIn share_layout

abbrev pub RebuildSays : List ℕ → ℕ → List ℕ → List ℕ → ℕ → List ℕ → List ℕ → Answer (Unit {0}) → Type 0
RebuildSays = RebuildSaysIn share_layout
