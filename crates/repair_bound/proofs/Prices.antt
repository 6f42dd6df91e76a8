-- The repair by traces is an additive repair; at the corners no other moves fewer bits.
use mathlib.Core.Path.{◌≡◌, refl, sym, ap, ap₂, ◌∙◌}
use mathlib.Core.Bool.{Bool, true, false, ◌||◌, not, true≢false}
use mathlib.Core.List.{List}
use mathlib.Core.Logic.{⊎_elim}
use Prim.Native.Nat.{ℕ, zero, suc, ◌+◌, ◌-◌, ◌*◌, ◌%◌, ◌^◌, ◌≤◌, ◌<◌}
use native.Mathlib.Nat.{mod-lt, mul-add, mul-zero, mul-one}
use native.Mathlib.Omega.{arith}
use borrow.Author.Tests.{eq-eqb, not-true}
use lib.Bits.{bit_xor, xor_mod}
use lib.Dec.{eqb, lit<}
use lib.ListN.{length, get_or}
use lib.Pow.{pow_pos}
use Rattle.lists.specs.Choice.{pick, when}
use Rattle.lists.specs.Counting.{count_from, passing_from}
use Rattle.lists.specs.Numbers.{is_in, distinct}
use Rattle.lists.proofs.All.{All-at}
use Rattle.std.proofs.lemmas.Bool.{or_parts}
use Rattle.lists.proofs.Count.{count_below}
use Rattle.lists.proofs.Passing.{passing_pass, length_passing}
use Rattle.field.specs.Bytes.{product}
use Rattle.field.specs.Fields.{size_of, mul}
use Rattle.field.specs.Kinds.{modulus}
use Rattle.field.proofs.Product.{product_byte, product_right}
use Rattle.scheme.specs.Sums.{sum}
use Rattle.generator.specs.declared.Header.{Header}
use Rattle.generator.specs.Records.{header_of, modulus_of, record_fault, Sound}
use Rattle.generator.specs.Codewords.{node_of}
use Rattle.generator.specs.Claims.{is_message}
use Rattle.generator.proofs.Accepts.{faultless_sound}
use Rattle.traces.specs.Traces.{trace_of}
use Rattle.traces.specs.Repairs.{bits, sends, senders, factor, sent_digit, part, repaired}
use Rattle.traces.specs.Claims.{Repairing, moved_by_traces}
use Rattle.traces.proofs.Bounds.{factor_below}
use Rattle.traces.proofs.Bytes.{trace_additive}
use Rattle.traces.proofs.Claims.{bits_one, moves_one, moves_two, moves_four, xor_below_agree, sender_below, senders_many, repair_node}
use Rattle.repair_bound.specs.Additive.{AdditiveRepair, sum_but, least_bits}
use Rattle.repair_bound.proofs.Bound.{repair_bound}
use Rattle.repair_bound.proofs.Examples.{at_corners}
use Rattle.repair_bound.specs.Prices.{trace_bits, trace_sent, Corner, TracePrice}

-- a sum of a where the test passes, and of 0 elsewhere
sum_where : (a n : ℕ) (f : ℕ → ℕ) (p : ℕ → Bool) → ((j : ℕ) → f j ≡ a * when (p j) 1) → sum n f ≡ a * count_from n 0 p
unfolding sum count_from
sum_where a zero f p h = sym (mul-zero a)
sum_where a (suc n) f p h = ap₂ ◌+◌ (h n) (sum_where a n f p h) ∙ sym (mul-add a (when (p n) 1) (count_from n 0 p)) ∙ ap (λ (x : ℕ). a * x) (sym (count_below n p))

module _ (h : Header) (s : Sound h) (kind : modulus_of h ≡ 0) (t : ℕ) (missing : List ℕ) (r : Repairing h t missing) where
  abbrev b : ℕ
  b = bits h (length missing)

  -- a product in the field is one of bytes
  mul_is : (x y : ℕ) → mul (modulus_of h) x y ≡ product x y
  unfolding mul
  mul_is x y = rw kind refl

  factor_byte : (j : ℕ) → factor h t missing j < 256
  unfolding size_of
  factor_byte j = rw kind at (factor_below h s t missing j)

  digit_additive : (j x y : ℕ) → x < 256 → y < 256 → sent_digit h t missing j (bit_xor x y) ≡ bit_xor (sent_digit h t missing j x) (sent_digit h t missing j y)
  unfolding sent_digit
  digit_additive j x y hx hy =
      let f = factor h t missing j in
      let out : (z : ℕ) → trace_of b (mul (modulus_of h) f z) % 2 ^ b ≡ trace_of b (product f z) % 2 ^ b = λ z. ap (λ (w : ℕ). trace_of b w % 2 ^ b) (mul_is f z) in
      out (bit_xor x y)
      ∙ ap (λ (w : ℕ). w % 2 ^ b) (ap (trace_of b) (product_right f x y hx hy) ∙ trace_additive b (product f x) (product f y) (product_byte f x (factor_byte j)) (product_byte f y (factor_byte j)))
      ∙ xor_mod (trace_of b (product f x)) (trace_of b (product f y)) b
      ∙ sym (ap₂ bit_xor (out x) (out y))

  digit_low : (j x : ℕ) → sent_digit h t missing j x < 2 ^ b
  unfolding sent_digit
  digit_low j x = mod-lt (trace_of b (mul (modulus_of h) (factor h t missing j) x)) (pow_pos b)

  -- a node that sends is there, and is not t
  sending : (i : ℕ) → i < length (senders h t missing) → (is_in (get_or (senders h t missing) i 0) missing ≡ false) × (get_or (senders h t missing) i 0 ≡ t → ⊥)
  unfolding senders sends is_in
  sending i l =
      let j = get_or (passing_from h.n 0 (sends t missing)) i 0 in
      let out : (eqb j t || is_in j missing) ≡ false = not-true _ (All-at (λ j. sends t missing j ≡ true) 0 (passing_from h.n 0 (sends t missing)) (passing_pass h.n 0 (sends t missing)) i l) in
      ((or_parts (eqb j t) (is_in j missing) out).1, λ e. true≢false (sym (eq-eqb j t e) ∙ (or_parts (eqb j t) (is_in j missing) out).0))

  settled : (ms us : List ℕ) → is_message h ms ≡ true → is_message h us ≡ true → ((j : ℕ) → j < h.n → (j ≡ t → ⊥) → trace_sent h t missing j (node_of h ms j) ≡ trace_sent h t missing j (node_of h us j)) → node_of h ms t ≡ node_of h us t
  unfolding repaired
  settled ms us m u same =
      sym (repair_node h s ms t missing m r)
      ∙ xor_below_agree (length (senders h t missing)) _ _
      (λ i l.
      let j = get_or (senders h t missing) i 0 in
      let (there, other) = sending i l in
      ap (part h b t j) (rw there at (same j (sender_below h t missing i l) other)))
      ∙ repair_node h s us t missing u r

  trace_additive_repair : AdditiveRepair h t (trace_bits h missing) (trace_sent h t missing)
  trace_additive_repair = record {
    below = λ j x node other low. below (is_in j missing) (sent_digit h t missing j x) (digit_low j x);
    additive = λ j x y node other hx hy. additive (is_in j missing) _ _ _ (digit_additive j x y hx hy);
    settles = settled;
  }
    where
      below : (e : Bool) (x : ℕ) → x < 2 ^ b → pick e 0 x < 2 ^ pick e 0 b
      below true x l = lit< tt
      below false x l = l

      additive : (e : Bool) (z x y : ℕ) → z ≡ bit_xor x y → pick e 0 z ≡ bit_xor (pick e 0 x) (pick e 0 y)
      additive true z x y q = refl
      additive false z x y q = q

  trace_total : distinct missing ≡ true → sum_but t h.n (trace_bits h missing) ≡ b * (h.n - 1 - length missing)
  unfolding sum_but senders sends is_in
  trace_total different =
      sum_where b h.n (λ j. pick (eqb j t) 0 (trace_bits h missing j)) (sends t missing) (λ j. each (eqb j t) (is_in j missing))
      ∙ ap (λ (x : ℕ). b * x) (sym (length_passing h.n 0 (sends t missing)) ∙ senders_many h t missing r different)
    where
      each : (e g : Bool) → pick e 0 (pick g 0 b) ≡ b * when (not (e || g)) 1
      each true g = sym (mul-zero b)
      each false true = sym (mul-zero b)
      each false false = sym (mul-one b)

  trace_moves : distinct missing ≡ true → h.n ≡ 255 → h.k + length missing ≤ 127 → sum_but t h.n (trace_bits h missing) ≡ 254 - length missing
  trace_moves different n few =
      let one : b ≡ 1 = bits_one h (length missing) kind (omega arith) in
      trace_total different ∙ ap (λ (x : ℕ). x * (h.n - 1 - length missing)) one ∙ omega arith

-- the least bits at the corners
corner : (k moved : ℕ) → least_bits 254 k ≡ moved → (n y : ℕ) → n ≡ 255 → least_bits (n - 1) k ≤ y → moved ≤ y
corner k moved e n y is l = let low : least_bits (255 - 1) k ≤ y = rw is at l in rw (sym e) low

trace_least : (h : Header) → modulus_of h ≡ 0 → (y : ℕ) → least_bits (h.n - 1) h.k ≤ y → h.n ≡ 255 → Corner h.k → moved_by_traces h ≤ y
trace_least h kind y l n c =
    ⊎_elim
    (λ e. rw (moves_one h kind n (omega arith)) (corner 127 254 at_corners.0 h.n y n (rw e at l)))
    (λ c. ⊎_elim
    (λ e. rw (moves_two h kind n (omega arith) (omega arith)) (corner 191 508 at_corners.1 h.n y n (rw e at l)))
    (λ e. rw (moves_four h kind n (omega arith) (omega arith)) (corner 239 1016 at_corners.2 h.n y n (rw e at l))) c) c

pub trace_price : (rec : List ℕ) → record_fault rec ≡ 0 → get_or rec 0 0 ≡ 2 → TracePrice (header_of rec)
unfolding header_of modulus
trace_price rec none kind =
    let h = header_of rec in
    let s = faultless_sound rec none in
    let bytes : modulus_of (header_of rec) ≡ 0 = rw kind in
    let bound = repair_bound rec none kind in
    record {
      additive = trace_additive_repair h s bytes;
      total = trace_total h s bytes;
      least = λ t other sent target repair n c. trace_least h bytes (sum_but t h.n other) (bound.moved_all t other sent target repair) n c;
      moves = λ t missing r different n few. trace_moves h s bytes t missing r different n few;
      twice = bound.twice;
    }
