-- Demand 3's sentence on updates, and what numbers 12 and 13 say, proved for every sound header.
use mathlib.Core.Path.{◌≡◌, refl, sym, ap, ap₂, subst, ◌∙◌}
use mathlib.Core.Logic.{◌↔◌, inl, inr, ⊎_elim}
use mathlib.Core.Bool.{true}
use mathlib.Core.List.{List}
use Prim.Native.Nat.{ℕ, ◌*◌, ◌<◌}
use native.Mathlib.Omega.{arith}
use borrow.Author.Tests.{eqb-true, eqb-false, not-false}
use lib.Dec.{eqb}
use lib.ListN.{length, get_or, set}
use lib.Seq.{set-get_or}
use Rattle.lists.specs.Choice.{pick}
use Rattle.lists.specs.Counting.{differ}
use Rattle.lists.specs.Numbers.{all_below}
use Rattle.lists.proofs.Cases.{by_test}
use Rattle.lists.proofs.Differ.{differ_same}
use Rattle.layout.specs.Layout.{held, lane_of, share_layout}
use Rattle.layout.specs.Width.{symbols_of}
use Rattle.layout.proofs.Buffers.{length_lane, get_or_lane}
use Rattle.layout.proofs.Places.{share_lawful}
use Rattle.layout.proofs.Readings.{count_symbols}
use Rattle.generator.specs.declared.Header.{Header}
use Rattle.generator.specs.Records.{size, width, distance, Sound}
use Rattle.generator.specs.Codewords.{encoding, is_word}
use Rattle.generator.specs.Messages.{message_of}
use Rattle.generator.specs.Claims.{is_message, Codeword}
use Rattle.generator.proofs.Changes.{alters}
use Rattle.generator.proofs.Widths.{width_some}
use Rattle.generator.proofs.Messages.{encoding_injective, message_back, word_message}
use Rattle.generator.proofs.Words.{words_poly, encoding_word}
use Rattle.refusals.specs.Conditions.{no_word, other_symbol}
use Rattle.refusals.specs.Faults.{stale_fault}
use Rattle.update.specs.Promise.{input_fault, update_fault}
use Rattle.update.proofs.Accepts.{input_accepts, update_accepts}
use Rattle.blocks.specs.Blocks.{updated}
use Rattle.blocks.proofs.Updates.{updated_encodes, updated_others, updated_count}
use Rattle.demands.specs.Numbers.{stale_numbers}
use Rattle.demands.specs.Updates.{Afterwards, Updated, lane_for, UpdateDemands}
use Rattle.demands.proofs.Judging.{Tells, line, last, told}
use Rattle.demands.proofs.Conditions.{not_test, other_test}

-- how many nodes a change alters
pub count : (h : Header) → Sound h → (ms : List ℕ) (r new : ℕ) → is_message h ms ≡ true → r < h.k → new < size h → differ (encoding h ms) (encoding h (set ms r new)) ≡ pick (eqb new (get_or ms r 0)) 0 (distance h)
count h s ms r new m row low =
    by_test (eqb new (get_or ms r 0))
    (λ t. rw t (ap (λ (u : List ℕ). differ (encoding h ms) (encoding h u)) (ap (set ms r) (eqb-true new (get_or ms r 0) t) ∙ set-get_or ms r 0) ∙ differ_same (encoding h ms)))
    (λ t. rw t (alters h s ms r new m row low (eqb-false new (get_or ms r 0) t)))

-- what node j holds in a lane that is known
held_lane : (h : Header) (l t : ℕ) (s ws : List ℕ) → lane_of share_layout h.n l t s ≡ ws → (j : ℕ) → j < h.n → held share_layout h.n l s j t ≡ get_or ws j 0
held_lane h l t s ws is j node = sym (get_or_lane share_layout h.n l t s j node) ∙ ap (λ (w : List ℕ). get_or w j 0) is

-- an update of a lane that encodes a message, from the symbol that the message holds
module _ (h : Header) (s : Sound h) (ms b : List ℕ) (l r t new : ℕ) (message : is_message h ms ≡ true) (row : r < h.k) (lane : t < l) (symbol : new < size h) (long : length b ≡ h.n * l) (encodes : lane_of share_layout h.n l t b ≡ encoding h ms) where
  afterwards : Afterwards h ms b (updated share_layout h l r t (get_or ms r 0) new b) l r t new
  afterwards =
      let now = updated_encodes share_lawful h s ms b l r t new message row lane symbol long encodes in
      let differing = updated_count share_lawful h s ms b l r t new message row lane symbol long encodes in
      record {
        lane = now;
        nodes = λ j node. ap₂ eqb (held_lane h l t b (encoding h ms) encodes j node) (held_lane h l t (updated share_layout h l r t (get_or ms r 0) new b) (encoding h (set ms r new)) now j node);
        altered = differing;
        count = differing ∙ count h s ms r new message row symbol;
        others = updated_others share_lawful h l r t (get_or ms r 0) new b;
      }

module _ (h : Header) (s : Sound h) (shares : List ℕ) (l r t old new : ℕ) where
  -- an accepted update
  pub accepted : update_fault share_layout h l r t old new shares ≡ 0 → Updated h (symbols_of (width h) shares) (updated share_layout h l r t old new (symbols_of (width h) shares)) l r t old new
  accepted none =
      let (lane, old_symbol, new_symbol, fresh) = update_accepts h s l r t old new shares none in
      let b = symbols_of (width h) shares in
      let ws = lane_of share_layout h.n l t b in
      let (message, at) = word_message h s ws (length_lane share_layout h.n l t b) lane.symbols fresh.word in
      let long : length b ≡ h.n * l = count_symbols (width h) (h.n * l) shares (width_some h) lane.bytes in
      record {
        message = message_of h ws;
        is_the_message = message;
        encoded = sym at;
        only = λ ms m e. encoding_injective h s ms (message_of h ws) m message (sym e ∙ sym at);
        held_old = fresh.holds;
        after = rw (← fresh.holds) (afterwards h s (message_of h ws) b l r t new message lane.row lane.lane new_symbol long (sym at));
      }

-- a lane of symbols: what its two tests say
module _ (h : Header) (s : Sound h) (ws : List ℕ) (long : length ws ≡ h.n) (below : all_below (size h) ws ≡ true) where
  pub no_word_test : (no_word h ws ≡ true) ↔ (Codeword h ws → ⊥)
  unfolding no_word
  no_word_test = not_test (is_word h ws) (words_poly h s ws long below)

  -- of a word
  pub other_symbol_test : is_word h ws ≡ true → (r old : ℕ) → (other_symbol h ws r old ≡ true) ↔ ((ms : List ℕ) × (is_message h ms ≡ true) × (encoding h ms ≡ ws) × (get_or ms r 0 ≡ old → ⊥))
  unfolding other_symbol
  other_symbol_test word r old = (
    λ e. let (message, at) = word_message h s ws long below word in (message_of h ws, message, at, (other_test _ old).0 e),
    λ e.
        let (ms, m, at, other) = e in
        let is : message_of h ws ≡ ms = ap (message_of h) (sym at) ∙ message_back h s ms m in
        rw is ((other_test _ old).1 other),
  )

  -- so of the numbers 12 and 13 the first that is met is given
  pub stale_tells : (r old : ℕ) → Tells (stale_numbers h ws r old) (stale_fault h ws r old)
  unfolding stale_fault no_word
  stale_tells r old =
      line 11 (no_word h ws) refl no_word_test
      (λ word. last 12 (other_symbol h ws r old) (other_symbol_test (not-false _ word) r old))

-- where what is given meets no number, the lane decides
module _ (h : Header) (s : Sound h) (shares : List ℕ) (l r t old new : ℕ) (given : input_fault share_layout h l r t old new shares ≡ 0) where
  abbrev ws : List ℕ
  ws = lane_for h l t shares

  decided : update_fault share_layout h l r t old new shares ≡ stale_fault h ws r old
  unfolding update_fault
  decided = rw given

  tells : Tells (stale_numbers h ws r old) (update_fault share_layout h l r t old new shares)
  tells = rw decided (stale_tells h s ws (length_lane share_layout h.n l t (symbols_of (width h) shares)) (input_accepts h s l r t old new shares given).0.symbols r old)

  pub no_such_word : (update_fault share_layout h l r t old new shares ≡ 12) ↔ (Codeword h ws → ⊥)
  no_such_word = (
    λ e. ⊎_elim (λ x. x.1) (⊎_elim (λ x. absurd (omega (arith, x.0))) (λ x. absurd x)) ((told tells 12).0 (e, λ z. omega arith)).0,
    λ none. ((told tells 12).1 (inl (refl, none), λ g low. ⊎_elim (λ x. omega (arith, x.0)) (⊎_elim (λ x. omega (arith, x.0)) (λ x. x)))).0,
  )

  pub another_symbol : (update_fault share_layout h l r t old new shares ≡ 13) ↔ ((ms : List ℕ) × (is_message h ms ≡ true) × (encoding h ms ≡ ws) × (get_or ms r 0 ≡ old → ⊥))
  another_symbol = (
    λ e. ⊎_elim (λ x. absurd (omega (arith, x.0))) (⊎_elim (λ x. x.1) (λ x. absurd x)) ((told tells 13).0 (e, λ z. omega arith)).0,
    λ e.
        let (ms, m, at, other) = e in
        let word : Codeword h ws = subst (Codeword h) at (encoding_word h s ms m) in
        ((told tells 13).1 (inr (inl (refl, e)), λ g low. ⊎_elim (λ x. x.1 word) (⊎_elim (λ x. omega (arith, x.0)) (λ x. x)))).0,
  )

pub update_demands : (h : Header) → Sound h → UpdateDemands h
update_demands h s = record { updates = accepted h s; no_such_word = no_such_word h s; another_symbol = another_symbol h s }
