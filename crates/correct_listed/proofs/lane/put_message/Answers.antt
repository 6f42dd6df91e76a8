-- `put_message` meets its contract. Invariant: the rows before r are written.
use mathlib.Core.Path.{◌≡◌, refl, sym, ap, ◌∙◌}
use Prim.Native.Nat.{ℕ, ◌+◌, ◌*◌, ◌≤◌}
use native.Mathlib.Omega.{arith}
use lib.ListN.{length, get_or}
use Rattle.lists.proofs.Numbers.{at_below, below_at}
use Rattle.lists.proofs.Rows.{part_length}
use Rattle.layout.specs.Width.{symbols_of, bytes_of}
use Rattle.layout.proofs.Lawful.{by_row}
use Rattle.layout.proofs.LaneParts.{lanes_long}
use Rattle.layout.proofs.Readings.{count_symbols, bytes_symbols}
use Rattle.layout.proofs.Rewritten.{length_rewritten, rewritten_none, rewritten_all}
use Rattle.layout.proofs.Widths.{length_bytes}
use Rattle.correct_listed.proofs.Writing.{row_put, place_fits}
use Rattle.correct_listed.proofs.lane.put_message.Goals as goal
use Rattle.correct_listed.proofs.lane.put_message.Goals.{Start, In-loop-r}

-- its length
bytes : (c : Start) → let a = c.args in length a.message.now ≡ length a.symbols.now * a.lanes * a.w.bytes
bytes c = let a = c.args in c.requires.4 ∙ sym (lanes_long a.w.bytes (length a.symbols.now) a.lanes)

-- the place of the symbol lies within the message
inside : (c : In-loop-r) → let a = c.args in (c.loop-r.r * a.lanes + a.t) * a.w.bytes + a.w.bytes ≤ length a.message.now
inside c =
    let a = c.args in
    rw c.requires.4 (place_fits a.w.bytes (length a.symbols.now) a.lanes a.t c.loop-r.r c.requires.0 c.loop-r-test.true)

pub loop-r-init : goal.loop-r-init
loop-r-init c =
    let a = c.args in
    let k = length a.symbols.now in
    let s = (goal.at.loop-r-init c).Start in
    sym (ap (bytes_of a.w.bytes) (rewritten_none by_row k a.lanes a.t (λ i. get_or a.symbols.now i 0) (symbols_of a.w.bytes a.message.now) (count_symbols a.w.bytes (k * a.lanes) a.message.now a.w.some (bytes s)))
    ∙ bytes_symbols a.w.bytes (k * a.lanes) a.message.now a.w.some (bytes s) (at_below 256 _ (λ i h. omega (arith, c.type_inv.message i))))

pub write_symbol-requires : goal.write_symbol-requires
write_symbol-requires c =
    let a = c.args in
    let l = c.loop-r in
    let k = length a.symbols.now in
    let long : length l.message ≡ length a.message.now =
    ap length l.invariant ∙ length_bytes a.w.bytes _ ∙ ap (λ (x : ℕ). x * a.w.bytes) (length_rewritten by_row k a.lanes a.t (λ i. get_or a.symbols.now i 0) (symbols_of a.w.bytes a.message.now) l.r) ∙ sym (bytes (goal.at.write_symbol-requires c).Start) in
    (below_at _ a.symbols.now c.requires.3 l.r c.loop-r-test.true, part_length ((l.r * a.lanes + a.t) * a.w.bytes) a.w.bytes l.message (omega (arith, long, inside (goal.at.write_symbol-requires c).In-loop-r)))

pub loop-r-preserved : goal.loop-r-preserved
loop-r-preserved c =
    let a = c.args in
    let l = c.loop-r in
    rw c.write_symbol.ensures (row_put a.w.bytes (length a.symbols.now) a.lanes a.t (λ i. get_or a.symbols.now i 0) (symbols_of a.w.bytes a.message.now) l.r l.message (get_or a.symbols.now l.r 0) c.requires.0 c.loop-r-test.true l.invariant refl)

pub returns : goal.returns
returns c =
    let a = c.args in
    let l = c.loop-r in
    l.invariant ∙ ap (bytes_of a.w.bytes) (rewritten_all by_row (length a.symbols.now) a.lanes a.t (λ i. get_or a.symbols.now i 0) (symbols_of a.w.bytes a.message.now) l.r c.loop-r-test.false)
