-- The promises of Recover and Rebuild give what the law of the recovered message says of the written bytes.
use Rattle.generator.specs.Answers.{Answer}
use mathlib.Core.Path.{◌≡◌, refl}
use mathlib.Core.List.{List}
use Prim.Native.Nat.{ℕ}
use native.Mathlib.Decide.{ℕ_discrete}
use borrow.Author.Tests.{ne_eqb}
use lib.Dec.{eqb}
use lib.ListN.{length}
use Rattle.lists.specs.Choice.{pick}
use Rattle.lists.specs.Inner.Choice.{PickT}
use Rattle.layout.specs.Layout.{Arrangement}
use Rattle.layout.proofs.Lawful.{Lawful}
use Rattle.generator.specs.Records.{header_of}
use Rattle.refusals.specs.Faults.{fault_of}
use Rattle.refusals.proofs.OnRecord.{none_met}
use Rattle.blocks.specs.Bytes.{recovered_bytes, rebuilt_bytes, RecoveredBytes, RebuiltBytes}
use Rattle.blocks.proofs.Recovered.{listed_message}
use Rattle.recover.specs.Promise.{recover_fault, rebuild_fault, RecoverSaysIn, RebuildSaysIn}
use Rattle.recover.proofs.Accepts.{recover_accepts, rebuild_accepts}

-- what is claimed of the value that is written where no number is met, is claimed of the buffer afterwards
claimed : (f : ℕ) (P : List ℕ → Type 0) (v out out' : List ℕ) → (f ≡ 0 → P v) → out' ≡ pick (eqb f 0) v out → PickT (eqb f 0) (P out') (out' ≡ out)
claimed f P v out out' p written = go (ℕ_discrete f 0)
  where
    go : Dec (f ≡ 0) → PickT (eqb f 0) (P out') (out' ≡ out)
    go (yes none) = let same : out' ≡ v = rw none at written in rw (none, same) (p none)
    go (no some) = rw (ne_eqb f 0 some) (rw (ne_eqb f 0 some) at written)

-- the promises of Recover and Rebuild give what they said before they were equations: the written bytes by the law
module _ {y : Arrangement} (a : Lawful y) (rec : List ℕ) (l : ℕ) (nodes shares out out' : List ℕ) (r : Answer (Unit {0})) where
  pub recover_law : RecoverSaysIn y rec l nodes shares out out' r → PickT (eqb (fault_of rec (λ h. recover_fault h l nodes shares (length out))) 0) (RecoveredBytes y (header_of rec) l nodes shares out') (out' ≡ out)
  unfolding RecoveredBytes recovered_bytes
  recover_law says =
      claimed (fault_of rec (λ h. recover_fault h l nodes shares (length out))) (RecoveredBytes y (header_of rec) l nodes shares) _ out out'
      (λ none.
      let (sound, own) = none_met rec (λ h. recover_fault h l nodes shares (length out)) none in
      let (listed, long) = recover_accepts (header_of rec) sound l nodes shares (length out) own in
      (_, listed_message a listed, refl))
      says.promise.written

  pub rebuild_law : (target : ℕ) → RebuildSaysIn y rec l nodes shares target out out' r → PickT (eqb (fault_of rec (λ h. rebuild_fault h l nodes shares target (length out))) 0) (RebuiltBytes y (header_of rec) l nodes shares target out') (out' ≡ out)
  unfolding RebuiltBytes rebuilt_bytes
  rebuild_law target says =
      claimed (fault_of rec (λ h. rebuild_fault h l nodes shares target (length out))) (RebuiltBytes y (header_of rec) l nodes shares target) _ out out'
      (λ none.
      let (sound, own) = none_met rec (λ h. rebuild_fault h l nodes shares target (length out)) none in
      let (listed, node, long) = rebuild_accepts (header_of rec) sound l nodes shares target (length out) own in
      (_, listed_message a listed, refl))
      says.promise.written
