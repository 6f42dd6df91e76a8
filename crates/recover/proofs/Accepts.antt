-- What holds where the call meets no number, and what it says beside one.
use Rattle.std.specs.Prelude.{Err}
use mathlib.Core.Path.{◌≡◌, sym}
use mathlib.Core.List.{List}
use Prim.Native.Nat.{ℕ, ◌*◌, ◌<◌}
use lib.ListN.{length}
use Rattle.layout.specs.Layout.{Arrangement}
use Rattle.generator.specs.declared.Header.{Header}
use Rattle.generator.specs.Records.{width, Sound}
use Rattle.generator.proofs.Answered.{answer_refused}
use Rattle.refusals.specs.Conditions.{lanes_bad, length_bad, number_bad}
use Rattle.refusals.specs.Accepted.{ListedShares}
use Rattle.refusals.proofs.NotMet.{length_good, number_good}
use Rattle.refusals.proofs.Accepts.{not_met, list_accepts}
use Rattle.blocks.proofs.Refused.{refused_value}
use Rattle.recover.specs.Promise.{recover_fault, rebuild_fault, RecoverPromise, RebuildPromise}

module _ (h : Header) (sound : Sound h) (l : ℕ) (nodes shares : List ℕ) where
  -- Recover: the message fills the written buffer
  pub recover_accepts : (out : ℕ) → recover_fault h l nodes shares out ≡ 0 → ListedShares h l nodes shares × (out ≡ h.k * l * width h)
  unfolding recover_fault
  recover_accepts out e =
      let (seven, a) = not_met (lanes_bad l) 6 _ e in
      let (count, b) = not_met (length_bad h.k (length nodes)) 7 _ a in
      let (long, c) = not_met (length_bad (h.k * l * width h) (length shares)) 7 _ b in
      let (written, rest) = not_met (length_bad (h.k * l * width h) out) 7 _ c in
      (list_accepts h sound l nodes shares seven count long rest, length_good (h.k * l * width h) out written)

  -- Rebuild: the target is a node, and its share fills the written buffer
  pub rebuild_accepts : (target out : ℕ) → rebuild_fault h l nodes shares target out ≡ 0 → ListedShares h l nodes shares × (target < h.n) × (out ≡ l * width h)
  unfolding rebuild_fault
  rebuild_accepts target out e =
      let (seven, a) = not_met (lanes_bad l) 6 _ e in
      let (count, b) = not_met (length_bad h.k (length nodes)) 7 _ a in
      let (long, c) = not_met (length_bad (h.k * l * width h) (length shares)) 7 _ b in
      let (written, d) = not_met (length_bad (l * width h) out) 7 _ c in
      let (node, rest) = not_met (number_bad h.n target) 8 _ d in
      (list_accepts h sound l nodes shares seven count long rest, number_good h.n target node, length_good (l * width h) out written)

-- beside a number g: the number, and nothing is written
module _ {y : Arrangement} (h : Header) (g : ℕ) (some : g ≡ 0 → ⊥) (l : ℕ) where
  pub recover_refuses : (nodes shares out : List ℕ) → RecoverPromise y l nodes shares out out (Err g) h g
  recover_refuses nodes shares out = record { answered = sym (answer_refused g _ some); written = sym (refused_value g _ out some) }

  pub rebuild_refuses : (nodes shares : List ℕ) (target : ℕ) (out : List ℕ) → RebuildPromise y l nodes shares target out out (Err g) h g
  rebuild_refuses nodes shares target out = record { answered = sym (answer_refused g _ some); written = sym (refused_value g _ out some) }
