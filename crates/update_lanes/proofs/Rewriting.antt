-- The loop that rewrites a run: what holds after i lanes, and one turn of it.
use mathlib.Core.Path.{◌≡◌, sym, ap, ◌∙◌}
use mathlib.Core.Bool.{true}
use mathlib.Core.List.{List}
use Prim.Native.Nat.{ℕ, ◌+◌, ◌*◌, ◌/◌, ◌≤◌, ◌<◌}
use native.Mathlib.Nat.{mul-le-mul}
use native.Mathlib.Numerals.{add-one}
use native.Mathlib.Omega.{arith}
use lib.ListN.{length, get_or}
use Rattle.lists.specs.Counting.{differ}
use Rattle.lists.specs.Numbers.{all_below}
use Rattle.lists.proofs.Differ.{differ_same, differ_most}
use Rattle.lists.proofs.Numbers.{below_at}
use Rattle.layout.specs.Layout.{share_layout}
use Rattle.layout.specs.Width.{symbol_at, symbols_of, bytes_of}
use Rattle.layout.proofs.Widths.{length_symbols, length_bytes, get_or_symbols, symbols_bytes}
use Rattle.layout.proofs.Readings.{count_symbols, bytes_symbols}
use Rattle.generator.specs.declared.Header.{Header}
use Rattle.generator.specs.Records.{size, width}
use Rattle.generator.proofs.Widths.{width_some}
use Rattle.refusals.specs.Accepted.{UpdatableLane}
use Rattle.blocks.specs.Blocks.{updated}
use Rattle.update_lanes.specs.Runs.{run_length, run_updated}
use Rattle.update_lanes.specs.Inner.Ready.{UpdatableRun}
use Rattle.update_lanes.proofs.Lanes.{length_after, lane_before, differ_next}

-- i lanes of the run have changed, and so many symbols with them
pub record RewritingRun (h : Header) (l r first : ℕ) (old new start now : List ℕ) (count i : ℕ) : Type 0 where
  pub shares : now ≡ bytes_of (width h) (run_updated h l r first (symbols_of (width h) old) (symbols_of (width h) new) i (symbols_of (width h) start))
  pub counted : count ≡ differ (symbols_of (width h) start) (run_updated h l r first (symbols_of (width h) old) (symbols_of (width h) new) i (symbols_of (width h) start))

module _ {h : Header} {l r first : ℕ} {old new start : List ℕ} (ready : UpdatableRun h l r first old new start) where
  abbrev w : ℕ
  w = width h

  abbrev olds : List ℕ
  olds = symbols_of (width h) old

  abbrev news : List ℕ
  news = symbols_of (width h) new

  abbrev whole : List ℕ
  whole = symbols_of (width h) start

  abbrev after : ℕ → List ℕ
  after i = run_updated h l r first olds news i whole

  long : length whole ≡ h.n * l
  long = count_symbols w (h.n * l) start (width_some h) ready.bytes

  -- as many symbols as lanes
  pub old_inside : (i : ℕ) → i < run_length h old → i < length old / w
  old_inside i inside = inside

  pub new_inside : (i : ℕ) → i < run_length h old → i < length new / w
  new_inside i inside =
      let many : length new / w ≡ run_length h old = sym (length_symbols w new) ∙ count_symbols w (run_length h old) new (width_some h) ready.new_bytes in
      rw many inside

  pub run_start : all_below 256 start ≡ true → RewritingRun h l r first old new start start 0 0
  unfolding run_updated
  run_start low = record { shares = sym (bytes_symbols w (h.n * l) start (width_some h) ready.bytes low); counted = sym (differ_same whole) }

  module _ {now : List ℕ} {count i : ℕ} (s : RewritingRun h l r first old new start now count i) where
    now_symbols : symbols_of w now ≡ after i
    now_symbols = ap (symbols_of w) s.shares ∙ symbols_bytes w (after i) (width_some h)

    -- the run's lane i can change, from a symbol and to a symbol
    pub run_lane : i < run_length h old → UpdatableLane h l r (first + i) now × (symbol_at w old i < size h) × (symbol_at w new i < size h)
    run_lane low =
        let inside : first + i < l = omega (arith, ready.inside) in (
          record {
            sound = ready.sound;
            few_lanes = ready.few_lanes;
            row = ready.row;
            lane = inside;
            bytes = ap length s.shares ∙ length_bytes w (after i) ∙ ap (λ (x : ℕ). x * w) (length_after h l r first olds news whole i long);
            symbols = rw (now_symbols, lane_before h l r first olds news whole i inside) (ready.lanes i low);
          },
          rw (get_or_symbols w old i (old_inside i low)) at (below_at (size h) olds ready.old_symbols i (rw (length_symbols w old) (old_inside i low))),
          rw (get_or_symbols w new i (new_inside i low)) at (below_at (size h) news ready.new_symbols i (rw (length_symbols w new) (new_inside i low))),
        )

    -- it has changed, and so many symbols in it
    module _ (low : i < run_length h old) (next : List ℕ) (more : ℕ) (is : next ≡ bytes_of w (updated share_layout h l r (first + i) (symbol_at w old i) (symbol_at w new i) (symbols_of w now))) (counts : more ≡ differ (symbols_of w now) (updated share_layout h l r (first + i) (symbol_at w old i) (symbol_at w new i) (symbols_of w now))) where
      turned : updated share_layout h l r (first + i) (symbol_at w old i) (symbol_at w new i) (symbols_of w now) ≡ updated share_layout h l r (first + i) (get_or olds i 0) (get_or news i 0) (after i)
      turned = rw (now_symbols, get_or_symbols w old i (old_inside i low), get_or_symbols w new i (new_inside i low))

      joined : count + more ≡ differ whole (updated share_layout h l r (first + i) (get_or olds i 0) (get_or news i 0) (after i))
      joined =
          let inside : first + i < l = omega (arith, ready.inside) in
          rw (s.counted, counts, turned, now_symbols) (differ_next h l r first olds news whole i long inside)

      pub run_next : RewritingRun h l r first old new start next (count + more) (i + 1)
      unfolding run_updated
      run_next = rw (add-one i) record { shares = is ∙ ap (bytes_of w) turned; counted = joined }

      -- there are no more than all symbols
      pub run_few : count + more ≤ 255 * 4096
      run_few =
          let most : count + more ≤ length whole = rw joined (differ_most whole _) in
          let few : h.n * l ≤ 255 * 4096 = mul-le-mul ready.sound.byte ready.few_lanes in
          omega (arith, most, few, long)
