-- The loop that rewrites a lane: what holds after j nodes, and one turn of it.
use mathlib.Core.Path.{◌≡◌, refl, sym, ap, ◌∙◌}
use mathlib.Core.Bool.{Bool, not}
use mathlib.Core.List.{List}
use Prim.Native.Nat.{ℕ, ◌+◌, ◌-◌, ◌≤◌, ◌<◌}
use native.Mathlib.Nat.{zero-add, sub-zero}
use native.Mathlib.Numerals.{add-one}
use native.Mathlib.Omega.{arith}
use borrow.Author.Tests.{eq-eqb, ne_eqb}
use lib.Dec.{eqb}
use lib.ListN.{length, get_or, set}
use Rattle.lists.specs.Counting.{count_from, differ}
use Rattle.lists.specs.Rows.{from}
use Rattle.lists.proofs.Count.{count_below, count_ext}
use Rattle.lists.proofs.Fill.{Fills, fills_start, fills_put, fills_next, fills_keep, fills_all}
use Rattle.lists.proofs.Rows.{from_next, from_end, get_or_from}
use Rattle.field.specs.Fields.{add, mul}
use Rattle.generator.specs.declared.Header.{Header}
use Rattle.generator.specs.Records.{modulus_of}
use Rattle.generator.specs.Generator.{entry}
use Rattle.blocks.specs.Blocks.{word_added}

-- what node j holds afterwards, and whether it is another symbol
abbrev pub after : Header → ℕ → ℕ → List ℕ → ℕ → ℕ
after h r x w j = add (modulus_of h) (get_or w j 0) (mul (modulus_of h) x (entry h r j))

abbrev altered : Header → ℕ → ℕ → List ℕ → ℕ → Bool
altered h r x w j = not (eqb (get_or w j 0) (after h r x w j))

-- the first j nodes are done, and so many of them have another symbol
pub record Rewriting (h : Header) (r x : ℕ) (start now : List ℕ) (count j : ℕ) : Type 0 where
  pub inside : j ≤ h.n
  pub few : count ≤ j
  pub done : Fills start now j (from (after h r x start) j (h.n - j)) (from (after h r x start) 0 h.n)
  pub counted : count ≡ count_from j 0 (altered h r x start)

module _ (h : Header) (r x : ℕ) (start : List ℕ) where
  pub rewriting_start : Rewriting h r x start start 0 0
  unfolding count_from
  rewriting_start = record { inside = omega arith; few = omega arith; done = rw sub-zero (fills_start start _); counted = refl }

  module _ (long : length start ≡ h.n) {now : List ℕ} {count j : ℕ} (s : Rewriting h r x start now count j) where
    -- every node is done
    pub rewriting_end : h.n ≤ j → (now ≡ word_added h r x start) × (count ≡ differ start now)
    unfolding word_added differ
    rewriting_end all =
        let e : j ≡ length start = omega (arith, s.inside) in
        let d : now ≡ from (after h r x start) 0 h.n = fills_all (rw (from_end _ h.n j all) at s.done) (omega arith) in (
          d,
          s.counted
              ∙ ap (λ (f : ℕ). count_from f 0 (altered h r x start)) e
              ∙ count_ext (length start) 0 _ _
              (λ i low high.
              ap (λ (b : ℕ). not (eqb (get_or start i 0) b)) (sym (ap (λ (w : List ℕ). get_or w i 0) d ∙ rw zero-add at (get_or_from (after h r x start) 0 h.n i 0 (omega arith))))),
        )

    module _ (node : j < h.n) where
      -- a node that is to come holds what it held
      pub rewriting_held : get_or now j 0 ≡ get_or start j 0
      rewriting_held = fills_next s.done 0

      module _ (v : ℕ) (new : v ≡ after h r x start j) where
        -- it becomes another symbol
        pub rewriting_put : (v ≡ get_or now j 0 → ⊥) → Rewriting h r x start (set now j v) (count + 1) (j + 1)
        rewriting_put other =
            record {
              inside = omega arith;
              few = omega (arith, s.few);
              done = rw new (fills_put (rw (from_next _ h.n j node) at s.done) (omega arith));
              counted = rw (add-one j, count_below j (altered h r x start), ne_eqb _ _ (λ e. other (new ∙ sym e ∙ sym rewriting_held))) (omega (arith, s.counted));
            }

        -- it keeps its symbol
        pub rewriting_skip : v ≡ get_or now j 0 → Rewriting h r x start now count (j + 1)
        rewriting_skip same =
            let kept : get_or start j 0 ≡ after h r x start j = sym rewriting_held ∙ sym same ∙ new in
            record {
              inside = omega arith;
              few = omega (arith, s.few);
              done = fills_keep (rw (from_next _ h.n j node) at s.done) (omega arith) 0 (sym kept);
              counted = rw (add-one j, count_below j (altered h r x start), eq-eqb _ _ kept) (omega (arith, s.counted));
            }
