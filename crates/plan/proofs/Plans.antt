-- What is read from the plan of a sound header.
use mathlib.Core.Path.{◌≡◌, sym}
use Prim.Native.Nat.{ℕ, ◌+◌, ◌%◌, ◌≤◌, ◌<◌}
use native.Mathlib.Omega.{arith}
use native.Mathlib.Nat.{mod-lt}
use borrow.Author.Tests.{lt-ltb}
use lib.ListN.{length, get_or, length-append}
use Rattle.lists.specs.Padded.{padded}
use Rattle.lists.proofs.Rows.{length_from}
use Rattle.lists.proofs.Padding.{get_or_padded}
use Rattle.generator.specs.declared.Header.{Header}
use Rattle.generator.specs.Records.{Sound}
use Rattle.generator.specs.Shifts.{shifts, firsts}
use Rattle.generator.specs.Generator.{entry_at, entry, base_word}
use Rattle.plan.specs.Plans.{plan_of, entry_in}
use Rattle.generator.proofs.Shifts.{shifts_length, shifts_below, firsts_length}
use Rattle.generator.proofs.Entries.{rows_base}

pub length_base : (h : Header) → length (base_word h) ≡ h.n
unfolding base_word
length_base h = length_from (entry_at h 0) 0 h.n

-- there is a place for each entry of the base word
pub base_room : (h : Header) → h.n ≤ length (plan_of h).base
unfolding plan_of padded
base_room h = simp length-append (omega (arith, length_base h))

module _ (h : Header) (s : Sound h) where
  -- the shifts and the base word in a plan
  pub shift_in : (r : ℕ) → r < h.k → get_or (plan_of h).shifts r 0 ≡ get_or (shifts h) r 0
  unfolding plan_of
  shift_in r row = get_or_padded 255 (shifts h) r (omega (arith, shifts_length h.n h.k s.some s.fits))

  -- a shift is below n
  pub shift_below : (r : ℕ) → r < h.k → get_or (plan_of h).shifts r 0 < h.n
  shift_below r row = rw (shift_in r row) (shifts_below h.n h.k s.some s.fits r row)

  -- a row's first node
  pub first_in : (r : ℕ) → r < h.k → get_or (plan_of h).firsts r 0 ≡ get_or (firsts h) r 0
  unfolding plan_of
  first_in r row = get_or_padded 255 (firsts h) r (omega (arith, firsts_length h.n h.k s.some s.fits))

  pub base_in : (i : ℕ) → i < h.n → get_or (plan_of h).base i 0 ≡ get_or (base_word h) i 0
  unfolding plan_of
  base_in i low = get_or_padded 255 (base_word h) i (omega (arith, length_base h))

  -- what stands in the base word where the shift of row r leads is the generator's entry
  pub entry_read : (r j : ℕ) → r < h.k → j < h.n → get_or (plan_of h).base ((j + get_or (plan_of h).shifts r 0) % h.n) 0 ≡ entry h r j
  entry_read r j row node =
      let place : (j + get_or (shifts h) r 0) % h.n < h.n = mod-lt (j + get_or (shifts h) r 0) (omega arith) in
      rw (shift_in r row, base_in _ place)
      (sym (rows_base h s r j))

  -- so is an entry that is read from a plan
  pub entry_in_lem : (r j : ℕ) → r < h.k → j < h.n → entry_in (plan_of h) r j ≡ entry h r j
  unfolding entry_in plan_of
  entry_in_lem r j row node = rw (lt-ltb r h.k row, lt-ltb j h.n node) (entry_read r j row node)
