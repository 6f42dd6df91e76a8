-- The loop that rewrites a lane, on its bytes.
use mathlib.Core.Path.{◌≡◌, sym, ap, ◌∙◌}
use mathlib.Core.Bool.{true}
use mathlib.Core.List.{List, ◌++◌}
use Prim.Native.Nat.{ℕ, ◌+◌, ◌-◌, ◌*◌, ◌/◌, ◌≤◌, ◌<◌}
use native.Mathlib.Nat.{mul_comm}
use native.Mathlib.Omega.{arith}
use lib.ListN.{length, get_or, take, drop}
use Rattle.lists.specs.Counting.{differ}
use Rattle.lists.specs.Numbers.{all_below}
use Rattle.lists.proofs.Numbers.{below_at}
use Rattle.lists.proofs.Rows.{row_inside}
use Rattle.layout.specs.Width.{symbol_at, symbols_of, symbol_bytes, bytes_of}
use Rattle.layout.proofs.Widths.{length_symbols, length_bytes, get_or_symbols, symbols_bytes}
use Rattle.layout.proofs.Readings.{bytes_symbols}
use Rattle.field.proofs.Bounds.{add_below, mul_below}
use Rattle.generator.specs.declared.Header.{Header}
use Rattle.generator.specs.Records.{modulus_of, size}
use Rattle.generator.proofs.Bounds.{entry_below}
use Rattle.generator.proofs.Widths.{width_some}
use Rattle.blocks.specs.Blocks.{word_added}
use Rattle.update.specs.Inner.Words.{UpdatableWord}
use Rattle.update.proofs.Lane.{symbol_written, word_long}
use Rattle.update.proofs.Rewriting.{Rewriting, after, rewriting_start, rewriting_held, rewriting_put, rewriting_skip, rewriting_end}

-- the bytes are those of their symbols, of which the first j nodes are done
pub record RewritingBytes (h : Header) (w r x : ℕ) (start now : List ℕ) (count j : ℕ) : Type 0 where
  pub whole : now ≡ bytes_of w (symbols_of w now)
  pub symbols : Rewriting h r x (symbols_of w start) (symbols_of w now) count j

module _ {h : Header} {w r : ℕ} {start : List ℕ} (ready : UpdatableWord h w r start) (x : ℕ) where
  some : 0 < w
  some = rw ready.wide (width_some h)

  -- what a node holds afterwards is a symbol
  pub after_below : x < size h → (j : ℕ) → j < h.n → after h r x (symbols_of w start) j < size h
  after_below low j node =
      let s = ready.sound in
      add_below (modulus_of h) s.field (below_at (size h) _ ready.symbols j (omega (arith, word_long ready))) (mul_below (modulus_of h) s.field low (entry_below h s r j))

  pub bytes_start : all_below 256 start ≡ true → RewritingBytes h w r x start start 0 0
  bytes_start low =
      record {
        whole = sym (bytes_symbols w h.n start some (ready.bytes ∙ mul_comm w h.n) low);
        symbols = rewriting_start h r x (symbols_of w start);
      }

  module _ {now : List ℕ} {count j : ℕ} (s : RewritingBytes h w r x start now count j) where
    symbols_long : length (symbols_of w now) ≡ h.n
    symbols_long = s.symbols.done.long ∙ word_long ready

    pub bytes_long : length now ≡ h.n * w
    bytes_long = ap length s.whole ∙ length_bytes w (symbols_of w now) ∙ ap (λ (n : ℕ). n * w) symbols_long

    -- every node is done
    pub bytes_end : h.n ≤ j → (now ≡ bytes_of w (word_added h r x (symbols_of w start))) × (count ≡ differ (symbols_of w start) (word_added h r x (symbols_of w start)))
    bytes_end all =
        let (added, counted) = rewriting_end h r x (symbols_of w start) (word_long ready) s.symbols all in
        (s.whole ∙ ap (bytes_of w) added, counted ∙ ap (differ (symbols_of w start)) added)

    module _ (node : j < h.n) where
      -- node j's symbol lies in the lane ..
      pub place_inside : j < length now / w
      place_inside = rw (← length_symbols w now, symbols_long) node

      pub bytes_inside : j * w + w ≤ length now
      bytes_inside = rw bytes_long (row_inside h.n j w node)

      -- .. and is what it was
      read_is : symbol_at w now j ≡ get_or (symbols_of w now) j 0
      read_is = sym (get_or_symbols w now j place_inside)

      pub bytes_held : symbol_at w now j ≡ get_or (symbols_of w start) j 0
      bytes_held = read_is ∙ rewriting_held h r x (symbols_of w start) (word_long ready) s.symbols node

      module _ (v : ℕ) (new : v ≡ after h r x (symbols_of w start) j) where
        -- it becomes another symbol
        pub bytes_put : (v ≡ symbol_at w now j → ⊥) → RewritingBytes h w r x start (take (j * w) now ++ (symbol_bytes w v ++ drop (j * w + w - j * w) (drop (j * w) now))) (count + 1) (j + 1)
        bytes_put other =
            let next = rewriting_put h r x (symbols_of w start) (word_long ready) s.symbols node v new (λ e. other (e ∙ sym read_is)) in
            rw (symbol_written w now j v s.whole (omega (arith, symbols_long)))
            record { whole = rw (symbols_bytes w _ some); symbols = rw (symbols_bytes w _ some) next }

        -- it keeps its symbol
        pub bytes_skip : v ≡ symbol_at w now j → RewritingBytes h w r x start now count (j + 1)
        bytes_skip same =
            record { whole = s.whole; symbols = rewriting_skip h r x (symbols_of w start) (word_long ready) s.symbols node v new (same ∙ read_is) }
