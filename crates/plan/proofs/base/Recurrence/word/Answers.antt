-- `Recurrence::word` meets its contract. Invariant: the entries up to place-index are written, x is root^(place-index + k − 1), and `entry` is p(x), the last of them.
use Rattle.std.proofs.lemmas.List.{take-replicate}
use mathlib.Core.List.{List, ◌∷◌, ◌++◌}
use mathlib.Core.Path.{◌≡◌, sym, ap, ◌∙◌}
use Prim.Native.Nat.{ℕ, suc, ◌+◌, ◌-◌, ◌≤◌, ◌<◌}
use native.Mathlib.Nat.{zero-add, add-sub_cancel}
use native.Mathlib.Numerals.{add-one}
use native.Mathlib.Omega.{arith}
use lib.ListN.{take, drop}
use Rattle.lists.specs.Padded.{zeros, padded}
use Rattle.lists.specs.Rows.{from}
use Rattle.lists.proofs.Fill.{Fills, fills_start, fills_put, fills_all, drop_zeros, length_zeros}
use Rattle.lists.proofs.Rows.{from_next, from_end, length_from}
use Rattle.field.specs.Fields.{power}
use Rattle.field.proofs.Bounds.{power_below}
use Rattle.field.proofs.KindLaws.{size_fits}
use Rattle.generator.specs.Records.{modulus_of, distance}
use Rattle.generator.specs.Generator.{base_at, entry_at}
use Rattle.generator.proofs.Bounds.{entry_at_below}
use Rattle.generator.proofs.BaseWord.{power_turn, pole_apart, entry_is, base_padded}
use Rattle.plan.proofs.base.Recurrence.word.Goals as goal
use Rattle.plan.proofs.base.Recurrence.word.Goals.{After-mul-x}

-- the places behind the first, before and after the loop
begun : (m : ℕ) (f : ℕ → ℕ) → m ≤ 254 → Fills (zeros m) (take m (zeros 254)) 0 (from f 1 m) (from f 1 m)
unfolding zeros
begun m f fits = rw (take-replicate {X = ℕ} m 254 0 fits) (fills_start _ _)

ended : (m room i x : ℕ) (f : ℕ → ℕ) (now : List ℕ) → room ≡ m → x ≡ f 0 → Fills (zeros m) now i (from f (i + 1) (m + 1 - (i + 1))) (from f 1 (m + 1 - 1)) → m ≤ i → x ∷ (now ++ drop room (zeros 254)) ≡ padded 255 (from f 0 (m + 1))
unfolding padded from
ended m room i x f now same first fills all =
    let whole : now ≡ from f 1 m = fills_all (rw (from_end f (m + 1) (i + 1) (omega arith)) at fills) (omega (arith, length_zeros m)) ∙ ap (from f 1) (add-sub_cancel m 1) in
    let rest : 254 - m ≡ 255 - suc m = omega arith in
    rw (same, first, whole, drop_zeros, length_from, add-one, rest)

pub overflow_cast-out : goal.overflow_cast-out
overflow_cast-out c =
    let s = c.args.self.codec.code.sound in
    omega (arith, c.first-entry.ensures, entry_at_below _ s 0 0, size_fits _ s.usable_field)

pub loop-place-init : goal.loop-place-init
unfolding zeros distance
loop-place-init c =
    let r = c.args.self in
    let h = r.codec.code.header in (
      rw zero-add r.scale_is,
      c.first-entry.ensures ∙ rw (entry_is h r.codec.code.sound 0, zero-add, r.scale_is),
      rw (c.checks-last.ensures, add-sub_cancel) (begun (h.n - h.k) (entry_at h 0) (omega arith)),
    )

pub next-entry-requires : goal.next-entry-requires
next-entry-requires c =
    let r = c.args.self in
    let h = r.codec.code.header in
    let s = r.codec.code.sound in
    let l = c.loop-place in
    (rw l.invariant.0 (power_below _ s.field _ s.root_below), λ q. pole_apart h s l.place-index (omega (arith, s.some)) (sym l.invariant.0 ∙ q ∙ r.pole_is), l.invariant.1)

pub mul-x-requires : goal.mul-x-requires
mul-x-requires c =
    let r = c.args.self in
    let s = r.codec.code.sound in
    rw r.codec.same (s.root_below, rw c.loop-place.invariant.0 (power_below _ s.field _ s.root_below))

-- after a turn, x and the entry are those of the next place
turn : (c : After-mul-x)
    → let h = c.args.self.codec.code.header in
    (c.mul-x.result ≡ power (modulus_of h) h.root (c.loop-place.place-index + 1 + (h.k - 1)))
    × (c.next-entry.result ≡ base_at h c.mul-x.result)
    × (c.next-entry.result ≡ entry_at h 0 (c.loop-place.place-index + 1))
turn c =
    let r = c.args.self in
    let h = r.codec.code.header in
    let s = r.codec.code.sound in
    let l = c.loop-place in
    let product = rw r.codec.same at c.mul-x.ensures.is in
    let next = product ∙ power_turn _ _ _ l.place-index (h.k - 1) l.invariant.0 in
    let value : c.next-entry.result ≡ base_at h c.mul-x.result = rw product c.next-entry.ensures in
    (next, value, value ∙ ap (base_at h) next ∙ sym (entry_is h s (l.place-index + 1)))

pub overflow_cast-place : goal.overflow_cast-place
overflow_cast-place c =
    let s = c.args.self.codec.code.sound in
    omega (arith, (turn c).2, entry_at_below _ s 0 (c.loop-place.place-index + 1), size_fits _ s.usable_field)

pub loop-place-preserved : goal.loop-place-preserved
unfolding distance
loop-place-preserved c =
    let h = c.args.self.codec.code.header in
    let l = c.loop-place in
    let t = turn c in
    let more : l.place-index + 1 < distance h = omega (arith, l.invariant.2.long, length_zeros (h.n - h.k)) in
    let todo = rw (from_next (entry_at h 0) (distance h) (l.place-index + 1) more) at l.invariant.2 in (
      t.0,
      t.1,
      rw t.2 (fills_put todo (omega (arith, length_zeros (h.n - h.k), l.invariant.2.long))),
    )

pub returns : goal.returns
unfolding distance zeros
returns c =
    let r = c.args.self in
    let h = r.codec.code.header in
    let l = c.loop-place in
    ended (h.n - h.k) _ _ _ (entry_at h 0) _ (add-sub_cancel _ _ ∙ c.checks-last.ensures) c.first-entry.ensures (rw c.checks-last.ensures at l.invariant.2) (omega (arith, (rw c.checks-last.ensures at l.invariant.2).long, length_zeros (h.n - h.k)))
    ∙ sym (base_padded h r.codec.code.sound 255 (omega arith))
