-- The last test of a repair gives the bits that a node sends, or the target.
use Rattle.std.specs.Prelude.{◌≡◌, List, ℕ, Option, None, Some, MatchOption, length}
use Rattle.std.specs.Option.{ok_or}
use Rattle.std.proofs.Common.{refl, ap, ◌∙◌}
use native.Mathlib.Omega.{arith}
use borrow.Author.Tests.{ne_eqb}
use Rattle.lists.specs.Choice.{when}
use Rattle.generator.specs.declared.Header.{Header}
use Rattle.generator.specs.declared.refusal.Refusal.TheVariants as R
use Rattle.generator.specs.Answers.{answer_of}
use Rattle.generator.specs.Inner.Answers.{numbered_by}
use Rattle.traces.specs.Repairs.{bits}
use Rattle.repair_tables.specs.declared.bits.Bits.{Bits}
use Rattle.repair_tables.specs.Inner.Bits.{bit_count}
use Rattle.repair_tables.proofs.Steps.{width_some}
use Rattle.repair_tables.specs.declared.nodes.Target.{Target}
use Rattle.repair.specs.Promise.{traces_bad}
use Rattle.repair.specs.Asked.{asked}

-- the bits, or number 17 where there are none
pub judged : (h : Header) (m : ℕ) (o : Option Bits) → MatchOption o (bits h m ≡ 0) (λ b. bit_count b ≡ bits h m) → numbered_by bit_count (ok_or o R.Traces) ≡ answer_of (when (traces_bad h m) 17) (bits h m)
unfolding traces_bad answer_of
judged h m None none = rw none refl
judged h m (Some b) is = rw (ne_eqb (bits h m) 0 (λ z. omega (arith, is, width_some b)), is) refl

-- the target, or the same number
pub told : (h : Header) (t : ℕ) (missing : List ℕ) (o : Option Target) → MatchOption o (bits h (length missing) ≡ 0) (λ x. (x.codec.code.header ≡ h) × (x.node ≡ t) × (x.missing.now ≡ missing)) → numbered_by asked (ok_or o R.Traces) ≡ answer_of (when (traces_bad h (length missing)) 17) (h, (t, missing))
unfolding traces_bad answer_of
told h t missing None none = rw none refl
told h t missing (Some x) is =
    let (code, node, list) = is in
    rw (← code, ← node, ← list, ne_eqb _ 0 x.repairing.some) refl

-- the bits of a target, by what it stands for
pub asked_bits : (x : Target) (h : Header) (t : ℕ) (missing : List ℕ) → asked x ≡ (h, (t, missing)) → bit_count x.bits ≡ bits h (length missing)
asked_bits x h t missing e = x.needed ∙ ap (λ p. bits p.0 (length p.1.1)) e
