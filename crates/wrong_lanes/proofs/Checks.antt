-- Sums with the weights of the checks, and the lists of these.
use mathlib.Core.Path.{◌≡◌, refl, sym, ap, ◌∙◌}
use mathlib.Core.Bool.{Bool, true}
use mathlib.Core.List.{List, [], append-nil}
use Prim.Native.Nat.{ℕ, ◌+◌, ◌-◌, ◌*◌, ◌%◌, ◌≤◌}
use native.Mathlib.Omega.{arith}
use lib.ListN.{length}
use Rattle.lists.specs.Choice.{pick}
use Rattle.lists.specs.Numbers.{all_below}
use Rattle.lists.specs.Rows.{from}
use Rattle.lists.proofs.Numbers.{at_below}
use Rattle.lists.proofs.Rows.{length_from, get_or_from, from_ext}
use Rattle.layout.specs.Layout.{lane_after_lane, lane_of}
use Rattle.layout.specs.Width.{symbols_of}
use Rattle.layout.proofs.Lawful.{by_lane}
use Rattle.layout.proofs.Buffers.{length_lane, lane_symbols}
use Rattle.field.specs.Fields.{power}
use Rattle.field.specs.Inner.Sums.{dot}
use Rattle.field.proofs.Bounds.{power_below}
use Rattle.generator.specs.declared.Header.{Header}
use Rattle.generator.specs.Records.{modulus_of, size, width, Sound}
use Rattle.generator.specs.Codewords.{check_from, is_word}
use Rattle.refusals.specs.Accepted.{SymbolRows}
use Rattle.refusals.specs.Inner.Accepted.{SymbolBytes}
use Rattle.row_sums.proofs.Columns.{dot_column}
use Rattle.check_sums.specs.Inner.Powers.{factors_of}
use Rattle.tile_products.proofs.Beginning.{begun_made}
use Rattle.tile_products.proofs.Fitting.{lists_fit}
use Rattle.block_products.specs.declared.Product.{Product}
use Rattle.block_products.specs.Inner.Marks.{all_zero, zero_marks}
use Rattle.block_products.specs.Inner.Ways.{side_of, out_bytes, result_bytes, lane_sum, Ready}
use Rattle.block_products.proofs.Marks.{all_zero_ext}
use Rattle.wrong_lanes.specs.Inner.Marks.{word_marks}
use Rattle.wrong_lanes.specs.Inner.Checks.{CheckLists, CheckRoom, check_product}
use Rattle.wrong_lanes.proofs.Marking.{sums_checks}

module _ (h : Header) (e : ℕ) where
  pub length_factors : length (factors_of h e) ≡ h.n
  unfolding factors_of
  length_factors = length_from (λ j. power (modulus_of h) h.root (j * e % h.n)) 0 h.n

  pub factors_below : Sound h → all_below (size h) (factors_of h e) ≡ true
  unfolding factors_of
  factors_below s =
      let f : ℕ → ℕ = λ j. power (modulus_of h) h.root (j * e % h.n) in
      at_below (size h) (from f 0 h.n) (λ i low. rw (get_or_from f 0 h.n i 0 (omega (arith, length_from f 0 h.n))) (power_below (modulus_of h) s.field ((0 + i) * e % h.n) s.root_below))

  -- the sum with the factors
  factors_sum : (ws : List ℕ) → length ws ≡ h.n → dot (modulus_of h) ws (factors_of h e) ≡ check_from h e 0 ws
  unfolding factors_of check_from
  factors_sum ws long =
      let f : ℕ → ℕ = λ j. power (modulus_of h) h.root (j * e % h.n) in
      ap (dot (modulus_of h) ws) (sym (append-nil (from f 0 h.n)))
      ∙ dot_column (modulus_of h) f (check_from h e) (λ j. refl) (λ j w ws. refl) 0 h.n ws [] (omega arith)

-- the check sums are all 0 where the lane is a word
pub factors_word : (h : Header) (ws : List ℕ) → length ws ≡ h.n → all_zero (h.n - h.k) (λ i. dot (modulus_of h) ws (factors_of h (i + 1))) ≡ is_word h ws
unfolding is_word
factors_word h ws long = all_zero_ext (h.n - h.k) _ (λ i. check_from h (i + 1) 0 ws) (λ i low. factors_sum h (i + 1) ws long) ∙ sums_checks (h.n - h.k) h ws

-- the lanes whose sums are all 0 are the words
pub sums_words : {h : Header} {l : ℕ} (s : List ℕ) (w : ℕ) (m : Product) (ws : ℕ → List ℕ) → m ≡ check_product h l → ((xs : List ℕ) → length xs ≡ h.n → all_below (size h) xs ≡ true → all_zero (h.n - h.k) (λ i. dot (modulus_of h) xs (ws i)) ≡ is_word h xs) → SymbolRows h h.n l (symbols_of w s) → result_bytes m.way w m.outputs m.lanes (lane_sum m w ws s) ≡ word_marks lane_after_lane h l (symbols_of w s)
unfolding result_bytes side_of zero_marks word_marks
sums_words {h} {l} s w m ws is tell rows =
    rw is
    (from_ext _ _ 0 l
    (λ t low high.
    ap (λ (b : Bool). pick b 0 1) (tell (lane_of lane_after_lane h.n l t (symbols_of w s)) (length_lane lane_after_lane h.n l t (symbols_of w s)) (lane_symbols by_lane h.n l (size h) t (symbols_of w s) (omega arith) rows.long rows.symbols))))

-- the lists of the checks fit scratch for so many nodes, in groups of four
pub check_room : (h : Header) (groups most : ℕ) → h.n ≤ most → most ≤ 4 * groups → CheckRoom h (most * (8 * groups)) (most * 8)
check_room h groups most few all = record { entries = lists_fit (h.n - h.k) h.n groups most (omega arith) (omega arith); sizes = omega arith }

-- with them made, the product is ready
pub checks_ready : {h : Header} {w l out : ℕ} {shares lists counts : List ℕ} → SymbolBytes h w h.n l shares → out ≡ l → CheckRoom h (length lists) (length counts) → CheckLists h lists counts → Ready (check_product h l) w lists counts shares out
unfolding width out_bytes
checks_ready shares long room checks =
    let sound = shares.symbol_rows.sound in
    record {
      usable_field = sound.usable_field;
      wide = shares.wide;
      few = sound.byte;
      few_lanes = shares.symbol_rows.few_lanes;
      made = begun_made (omega (arith, sound.byte)) room.entries room.sizes checks.begun;
      source_long = shares.bytes;
      out_long = long;
    }
