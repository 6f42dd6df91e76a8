-- What holds where neither call meets a number, and what each says beside one.
use Rattle.std.specs.Prelude.{Ok, Err}
use mathlib.Core.Path.{◌≡◌, sym, ◌∙◌}
use mathlib.Core.Bool.{true, false, not}
use mathlib.Core.List.{List}
use Prim.Native.Nat.{ℕ, ◌-◌, ◌*◌, ◌≤◌, ◌<◌}
use borrow.Author.Tests.{eqb-false}
use lib.Dec.{eqb}
use lib.ListN.{length}
use Rattle.lists.specs.Numbers.{is_in, distinct}
use Rattle.lists.proofs.Cases.{when_zero}
use Rattle.generator.specs.declared.Header.{Header}
use Rattle.generator.specs.Records.{width}
use Rattle.refusals.specs.Conditions.{lanes_bad, length_bad, number_bad, nodes_bad, twice_bad}
use Rattle.refusals.proofs.NotMet.{lanes_good, length_good, number_good, nodes_good, twice_good}
use Rattle.refusals.proofs.Accepts.{not_met}
use Rattle.refusals.proofs.OneByte.{times_width}
use Rattle.generator.specs.Answers.{answer_of}
use Rattle.generator.proofs.Answered.{answer_refused}
use Rattle.blocks.proofs.Refused.{refused_value}
use Rattle.traces.specs.Repairs.{bits, sends}
use Rattle.traces.specs.Claims.{Repairing}
use Rattle.traces.proofs.Claims.{repairable}
use Rattle.repair.specs.Packing.{packed_size}
use Rattle.repair.specs.Sent.{sent, repaired_share}
use Rattle.repair.specs.Promise.{traces_bad, target_fault, repair_bits_fault, repair_share_fault, RepairBitsPromise, RepairSharePromise, RepairPlanPromise}
use Rattle.repair.proofs.Sending.{one_byte}

-- a node may send
pub record BitsAccepted (h : Header) (l j t : ℕ) (missing : List ℕ) (share out : ℕ) : Type 0 where
  pub few : l ≤ 4096
  pub share_long : share ≡ l
  pub out_long : out ≡ packed_size (bits h (length missing)) l
  pub node : j < h.n
  pub repairing : Repairing h t missing

-- the target may repair
pub record ShareAccepted (h : Header) (l t : ℕ) (missing : List ℕ) (rows out : ℕ) : Type 0 where
  pub few : l ≤ 4096
  pub rows_long : rows ≡ (h.n - 1 - length missing) * packed_size (bits h (length missing)) l
  pub out_long : out ≡ l
  pub repairing : Repairing h t missing
  pub different : distinct missing ≡ true

module _ (h : Header) where
  target_accepts : (t : ℕ) (missing : List ℕ) → target_fault h t missing ≡ 0 → Repairing h t missing × (distinct missing ≡ true)
  unfolding target_fault traces_bad
  target_accepts t missing e =
      let (target, a) = not_met (number_bad h.n t) 8 _ e in
      let (nodes, b) = not_met (nodes_bad h missing) 8 _ a in
      let (others, c) = not_met (is_in t missing) 8 _ b in
      let (twice, d) = not_met (twice_bad missing) 9 _ c in (
        record { inside = number_good h.n t target; nodes = nodes_good h missing nodes; others = others; some = eqb-false _ 0 (when_zero (eqb (bits h (length missing)) 0) 16 d) },
        twice_good missing twice,
      )

  -- a symbol has one byte
  bytes_good : (l t long : ℕ) (missing : List ℕ) → Repairing h t missing → length_bad (l * width h) long ≡ false → long ≡ l
  bytes_good l t long missing r e = length_good (l * width h) long e ∙ times_width h (one_byte h (repairable h (length missing) r.some).kind) l

  pub bits_accepts : (l j t : ℕ) (missing : List ℕ) (share out : ℕ) → repair_bits_fault h l j t missing share out ≡ 0 → BitsAccepted h l j t missing share out
  unfolding repair_bits_fault
  bits_accepts l j t missing share out e =
      let (seven, a) = not_met (lanes_bad l) 6 _ e in
      let (read, b) = not_met (length_bad (l * width h) share) 7 _ a in
      let (written, c) = not_met (length_bad (packed_size (bits h (length missing)) l) out) 7 _ b in
      let (node, d) = not_met (number_bad h.n j) 8 _ c in
      let (other, f) = not_met (not (sends t missing j)) 8 _ d in
      let r = (target_accepts t missing f).0 in
      record {
        few = (lanes_good l seven).1;
        share_long = bytes_good l t share missing r read;
        out_long = length_good _ out written;
        node = number_good h.n j node;
        repairing = r;
      }

  pub share_accepts : (l t : ℕ) (missing : List ℕ) (rows out : ℕ) → repair_share_fault h l t missing rows out ≡ 0 → ShareAccepted h l t missing rows out
  unfolding repair_share_fault
  share_accepts l t missing rows out e =
      let (seven, a) = not_met (lanes_bad l) 6 _ e in
      let (read, b) = not_met (length_bad ((h.n - 1 - length missing) * packed_size (bits h (length missing)) l) rows) 7 _ a in
      let (written, c) = not_met (length_bad (l * width h) out) 7 _ b in
      let (r, different) = target_accepts t missing c in
      record {
        few = (lanes_good l seven).1;
        rows_long = length_good _ rows read;
        out_long = bytes_good l t out missing r written;
        repairing = r;
        different = different;
      }

  -- beside a number
  module _ (g : ℕ) (some : g ≡ 0 → ⊥) where
    pub bits_refuses : (j t : ℕ) (missing share out : List ℕ) → RepairBitsPromise j t missing share out out (Err g) h g
    bits_refuses j t missing share out = record { answered = sym (answer_refused g _ some); written = sym (refused_value g _ out some) }

    pub share_refuses : (l t : ℕ) (missing rows out : List ℕ) → RepairSharePromise l t missing rows out out (Err g) h g
    share_refuses l t missing rows out = record { answered = sym (answer_refused g _ some); written = sym (refused_value g _ out some) }

  -- where none is met
  pub bits_done : (f : ℕ) → f ≡ 0 → (j t : ℕ) (missing share out out' : List ℕ) → out' ≡ sent h t missing j share → RepairBitsPromise j t missing share out out' (Ok tt) h f
  unfolding answer_of
  bits_done f none j t missing share out out' e = record { answered = rw none; written = rw none e }

  pub share_done : (f : ℕ) → f ≡ 0 → (l t : ℕ) (missing rows out out' : List ℕ) → out' ≡ repaired_share h l t missing rows → RepairSharePromise l t missing rows out out' (Ok tt) h f
  unfolding answer_of
  share_done f none l t missing rows out out' e = record { answered = rw none; written = rw none e }

-- beside a number the plan gives that number
pub plan_refuses : (h : Header) (f : ℕ) → (f ≡ 0 → ⊥) → (count : ℕ) → RepairPlanPromise count (Err f) h f
plan_refuses h f some count = record { answered = sym (answer_refused f _ some) }
