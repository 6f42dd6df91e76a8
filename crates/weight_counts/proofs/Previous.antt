-- A list whose places are replaced, from the last one down, by an operation on each and the place before it.
use Rattle.std.proofs.Common.{◌≡◌, ℕ, ◌-◌, ◌<◌, ◌≤◌, ltb, List, length, get_or, sym, ap, ◌∙◌, zero-add, arith, ext_get_or, le-ltb, lt-ltb}
use native.Mathlib.Decide.{dec_lt}
use Rattle.lists.specs.Choice.{pick}
use Rattle.lists.specs.Rows.{from}
use Rattle.lists.proofs.Rows.{length_from, get_or_from}
use Rattle.weight_counts.specs.Inner.Counting.{with_previous}

module _ (op : ℕ → ℕ → ℕ) (start : List ℕ) where
  -- what place i becomes
  abbrev pub renewed : ℕ → ℕ
  renewed i = op (get_or start i 0) (get_or start (i - 1) 0)

  -- the places from y on are replaced
  pub record Renewed (now : List ℕ) (y : ℕ) : Type 0 where
    pub long : length now ≡ length start
    pub above : (i : ℕ) → y ≤ i → i < length start → get_or now i 0 ≡ renewed i
    pub under : (i : ℕ) → i < y → get_or now i 0 ≡ get_or start i 0

  pub renewed_end : (now : List ℕ) (first : ℕ) → Renewed now first → now ≡ with_previous op first start
  unfolding with_previous
  renewed_end now first r =
      let whole : ℕ → ℕ = λ i. pick (ltb i first) (get_or start i 0) (renewed i) in
      ext_get_or 0 now (from whole 0 (length start)) (r.long ∙ sym (length_from whole 0 (length start)))
      (λ i h. at i (omega (arith, r.long)) (dec_lt i first) ∙ sym (get_or_from whole 0 (length start) i 0 (omega (arith, r.long)) ∙ ap whole (zero-add i)))
    where
      at : (i : ℕ) → i < length start → Dec (i < first) → get_or now i 0 ≡ pick (ltb i first) (get_or start i 0) (renewed i)
      at i h (yes l) = rw (lt-ltb i first l) (r.under i l)
      at i h (no l) = rw (le-ltb i first (omega arith)) (r.above i (omega arith) h)
