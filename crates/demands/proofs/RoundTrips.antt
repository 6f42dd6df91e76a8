-- Calls one after the other, from what each promises.
use Rattle.std.specs.Prelude.{Ok}
use mathlib.Core.Path.{◌≡◌, sym, ap, ap₂, ◌∙◌}
use mathlib.Core.Bool.{true}
use mathlib.Core.List.{List, [], ◌∷◌}
use Prim.Native.Nat.{ℕ, ◌+◌, ◌*◌, ◌<◌}
use native.Mathlib.Nat.{zero-add, add-zero, mul-one, one-mul}
use native.Mathlib.Omega.{arith}
use lib.ListN.{length, get_or, set}
use Rattle.lists.specs.Rows.{from}
use Rattle.lists.specs.Numbers.{all_below}
use Rattle.lists.proofs.All.{All-at}
use Rattle.std.proofs.lemmas.Nat.{mul-add-lt}
use Rattle.lists.proofs.Rows.{from_ext, length_from, get_or_from}
use Rattle.layout.specs.Layout.{row_after_row, held, lane_of, buffer, share_layout}
use Rattle.layout.specs.Width.{symbol_bytes, bytes_of}
use Rattle.layout.proofs.Buffers.{length_buffer, length_lane, get_or_lane, held_buffer, held_equal, buffer_ext, lanes_equal}
use Rattle.layout.proofs.Places.{share_lawful, held_share, held_by_row}
use Rattle.layout.proofs.Readings.{count_symbols, bytes_symbols, get_or_bytes}
use Rattle.layout.proofs.Widths.{length_bytes, symbols_bytes}
use Rattle.generator.specs.declared.Header.{Header}
use Rattle.generator.specs.Records.{header_of, width, Sound}
use Rattle.generator.specs.Codewords.{encoding}
use Rattle.generator.specs.Messages.{message_of}
use Rattle.generator.specs.Claims.{is_message, are_nodes}
use Rattle.generator.proofs.Messages.{message_back}
use Rattle.generator.proofs.Recovery.{nodes_places}
use Rattle.generator.proofs.Widths.{width_some}
use Rattle.generator.proofs.Words.{encoding_symbols, encoding_word}
use Rattle.generator.proofs.Answered.{done_is}
use Rattle.refusals.specs.Accepted.{SymbolBuffer}
use Rattle.refusals.specs.Faults.{fault_of}
use Rattle.recover.specs.Promise.{recover_fault, rebuild_fault, RecoverSays, RebuildSays}
use Rattle.update.specs.Promise.{update_fault, UpdateSays}
use Rattle.encode.specs.Promise.{encode_fault, EncodeSays}
use Rattle.recover.proofs.Accepts.{recover_accepts, rebuild_accepts}
use Rattle.update.proofs.Accepts.{update_accepts}
use Rattle.encode.proofs.Accepts.{encode_accepts}
use Rattle.refusals.proofs.OnRecord.{none_met}
use Rattle.blocks.specs.Blocks.{share_at, share_of, shares_of, gathered, recovered, updated}
use Rattle.blocks.specs.Bytes.{encoded_bytes, updated_bytes, recovered_bytes, rebuilt_bytes}
use Rattle.blocks.proofs.Messages.{lane_message, gathered_message}
use Rattle.blocks.proofs.OneSymbol.{updated_shares}
use Rattle.blocks.proofs.Recovered.{recovered_only}
use Rattle.blocks.proofs.Shares.{length_shares, lane_encodes}
use Rattle.demands.specs.LaneAfterLane.{Full}
use Rattle.correct.specs.Blocks.{corrected_shares, corrected_bytes}
use Rattle.correct.specs.Promise.{correct_fault, CorrectSays}
use Rattle.correct.specs.Meaning.{NearWord, lane_in}
use Rattle.demands.proofs.Corrections.{corrections}
use Rattle.demands.specs.Calls.{read}
use Rattle.demands.specs.RoundTrips.{cut_of, with_symbol, FewWrong, RoundTrips}
use Rattle.demands.proofs.Calls.{read_written}

-- what is known of a call of Encode that was done
pub record Encoded (h : Header) (l : ℕ) (message shares : List ℕ) : Type 0 where
  pub sound : Sound h
  pub buffer_is : SymbolBuffer h h.k l message
  pub written : shares ≡ bytes_of (width h) (shares_of share_layout h l (read h message))
  pub shares_are : read h shares ≡ shares_of share_layout h l (read h message)

pub encoded : (rec : List ℕ) (l : ℕ) (message out shares : List ℕ) → EncodeSays rec l message out shares (Ok tt) → Encoded (header_of rec) l message shares
unfolding encoded_bytes
encoded rec l message out shares says =
    let h = header_of rec in
    let none = done_is (fault_of rec (λ h. encode_fault h l (length out) message)) _ says.promise.answered in
    let (sound, own) = none_met rec (λ h. encode_fault h l (length out) message) none in
    let (rows, long) = encode_accepts h sound l (length out) message own in
    let written : shares ≡ bytes_of (width h) (shares_of share_layout h l (read h message)) = rw none at says.promise.written in
    record { sound = sound; buffer_is = rows; written = written; shares_are = read_written h shares _ written }

-- what is cut out: how long it is, its symbols, and its bytes
cut_long : (h : Header) (l : ℕ) (nodes shares : List ℕ) → length (cut_of h l nodes shares) ≡ length nodes * l * width h
unfolding cut_of
cut_long h l nodes shares = length_bytes (width h) _ ∙ ap (λ (x : ℕ). x * width h) (length_buffer _ (length nodes) l _)

cut_symbols : (h : Header) (l : ℕ) (nodes shares : List ℕ) → read h (cut_of h l nodes shares) ≡ buffer share_layout (length nodes) l (λ i t. held share_layout h.n l (read h shares) (get_or nodes i 0) t)
unfolding cut_of
cut_symbols h l nodes shares = symbols_bytes (width h) _ (width_some h)

-- a byte of what is cut out is one of the symbol of that node and lane ..
cut_byte : (h : Header) (l : ℕ) (nodes shares : List ℕ) (i t v : ℕ) → i < length nodes → t < l → v < width h → get_or (cut_of h l nodes shares) ((t * length nodes + i) * width h + v) 0 ≡ get_or (symbol_bytes (width h) (get_or (read h shares) (t * h.n + get_or nodes i 0) 0)) v 0
unfolding cut_of
cut_byte h l nodes shares i t v place inside low =
    let f : ℕ → ℕ → ℕ = λ i t. held share_layout h.n l (read h shares) (get_or nodes i 0) t in
    let xs = buffer share_layout (length nodes) l f in
    get_or_bytes (width h) xs (t * length nodes + i) v (rw (length_buffer share_layout (length nodes) l f) (mul-add-lt t (length nodes) i l inside place)) low
    ∙ ap (λ (x : ℕ). get_or (symbol_bytes (width h) x) v 0) (sym (held_share (length nodes) l xs i t) ∙ held_buffer share_lawful (length nodes) l f i t place inside ∙ held_share h.n l (read h shares) (get_or nodes i 0) t)

-- .. and so is a byte of the shares
share_byte : (h : Header) (l : ℕ) (shares : List ℕ) → Full h h.n l shares → all_below 256 shares ≡ true → (j t v : ℕ) → j < h.n → t < l → v < width h → get_or (symbol_bytes (width h) (get_or (read h shares) (t * h.n + j) 0)) v 0 ≡ get_or shares ((t * h.n + j) * width h + v) 0
share_byte h l shares full bytes j t v node inside low =
    sym (get_or_bytes (width h) (read h shares) (t * h.n + j) v (rw (count_symbols (width h) (h.n * l) shares (width_some h) full) (mul-add-lt t h.n j l inside node)) low)
    ∙ ap (λ (s : List ℕ). get_or s ((t * h.n + j) * width h + v) 0) (bytes_symbols (width h) (h.n * l) shares (width_some h) full bytes)

-- a buffer of one row is that row
one_row : (l : ℕ) (f : ℕ → ℕ → ℕ) → buffer share_layout 1 l f ≡ from (f 0) 0 l
one_row l f =
    held_equal share_lawful 1 l _ _ (length_buffer share_layout 1 l f) (length_from (f 0) 0 l ∙ sym (one-mul l))
    (λ i t row inside.
    let first : i ≡ 0 = omega arith in
    held_buffer share_lawful 1 l f i t row inside
    ∙ ap (λ (j : ℕ). f j t) first
    ∙ sym (held_share 1 l _ i t ∙ rw (mul-one t, first, add-zero t) (rw zero-add at (get_or_from (f 0) 0 l t 0 inside))))

module _ {h : Header} {l : ℕ} {message shares : List ℕ} (e : Encoded h l message shares) where
  -- the message as symbols, and its lanes
  abbrev m : List ℕ
  m = read h message

  lane_is : (t : ℕ) → t < l → is_message h (lane_of row_after_row h.k l t m) ≡ true
  lane_is t inside = let rows = e.buffer_is.symbol_rows in lane_message h l m t inside rows.long rows.symbols

  -- lane t of the shares encodes it
  lane_word : (t : ℕ) → t < l → lane_in h l shares t ≡ encoding h (lane_of row_after_row h.k l t m)
  lane_word t inside = ap (lane_of share_layout h.n l t) e.shares_are ∙ lane_encodes h l m share_lawful t inside

  -- what a node holds
  held_encoded : (j t : ℕ) → j < h.n → t < l → held share_layout h.n l (read h shares) j t ≡ share_at h l m j t
  unfolding shares_of
  held_encoded j t node inside = ap (λ (s : List ℕ). held share_layout h.n l s j t) e.shares_are ∙ held_buffer share_lawful h.n l (share_at h l m) j t node inside

  module _ (nodes : List ℕ) (different : are_nodes h nodes ≡ true) where
    -- what is cut out at k nodes are their shares of the message
    cut_gathered : read h (cut_of h l nodes shares) ≡ gathered share_layout h l nodes m
    unfolding gathered
    cut_gathered =
        let places = nodes_places h nodes different in
        cut_symbols h l nodes shares
        ∙ ap (λ (c : ℕ). buffer share_layout c l (λ i t. held share_layout h.n l (read h shares) (get_or nodes i 0) t)) places.size
        ∙ buffer_ext share_lawful h.k l _ _ (λ i t place inside. held_encoded (get_or nodes i 0) t (All-at (λ j. j < h.n) 0 nodes places.low i (omega (arith, places.size))) inside)

    -- so it is recovered
    recovered_back : recovered share_layout h l nodes (read h (cut_of h l nodes shares)) ≡ m
    recovered_back =
        let rows = e.buffer_is.symbol_rows in
        ap (recovered share_layout h l nodes) cut_gathered
        ∙ recovered_only h e.sound nodes different share_lawful l _ m (gathered_message share_lawful h e.sound l nodes different m rows.long rows.symbols)

  -- what is cut out at one node is its share
  pub cut_share : (target : ℕ) → target < h.n → cut_of h l (target ∷ []) shares ≡ bytes_of (width h) (share_of h l m target)
  unfolding cut_of share_of
  cut_share target node =
      ap (bytes_of (width h))
      (one_row l (λ i t. held share_layout h.n l (read h shares) (get_or (target ∷ []) i 0) t)
      ∙ from_ext _ (share_at h l m target) 0 l (λ t low high. held_encoded target t node (omega arith)))

  -- a lane that differs from a lane of the shares at few nodes is near to it
  near : (wrong : List ℕ) → FewWrong h l shares wrong → (t : ℕ) → t < l → NearWord h (lane_in h l wrong t) (lane_in h l shares t)
  near wrong few t inside =
      let ms = lane_of row_after_row h.k l t m in
      record {
        long = length_lane share_layout h.n l t (read h shares);
        symbols = rw (lane_word t inside) (encoding_symbols h e.sound ms (lane_is t inside));
        word = rw (lane_word t inside) (encoding_word h e.sound ms (lane_is t inside));
        close = few t inside;
      }

  -- the symbol that the message of lane t has at number r
  symbol_was : (r t : ℕ) → r < h.k → t < l → get_or (message_of h (lane_in h l shares t)) r 0 ≡ get_or m (r * l + t) 0
  symbol_was r t row inside =
      let ms = lane_of row_after_row h.k l t m in
      ap (λ (w : List ℕ). get_or w r 0) (ap (message_of h) (lane_word t inside) ∙ message_back h e.sound ms (lane_is t inside))
      ∙ get_or_lane row_after_row h.k l t m r row
      ∙ held_by_row h.k l m r t

module _ (rec : List ℕ) (l : ℕ) (message out shares : List ℕ) (says : EncodeSays rec l message out shares (Ok tt)) where
  abbrev h : Header
  h = header_of rec

  abbrev e : Encoded h l message shares
  e = encoded rec l message out shares says

  -- Recover writes the message again
  recover : (nodes back back' : List ℕ) → RecoverSays rec l nodes (cut_of h l nodes shares) back back' (Ok tt) → back' ≡ bytes_of (width h) (read h message)
  unfolding recovered_bytes
  recover nodes back back' done =
      let listed = cut_of h l nodes shares in
      let none = done_is (fault_of rec (λ h. recover_fault h l nodes listed (length back))) _ done.promise.answered in
      let (sound, own) = none_met rec (λ h. recover_fault h l nodes listed (length back)) none in
      let different = (recover_accepts h sound l nodes listed (length back) own).0.different in
      rw none at done.promise.written ∙ ap (bytes_of (width h)) (recovered_back e nodes different)

  -- Rebuild writes a node's share of it
  rebuild : (nodes : List ℕ) (target : ℕ) (back back' : List ℕ) → RebuildSays rec l nodes (cut_of h l nodes shares) target back back' (Ok tt) → (target < h.n) × (back' ≡ bytes_of (width h) (share_of h l (read h message) target))
  unfolding rebuilt_bytes
  rebuild nodes target back back' done =
      let listed = cut_of h l nodes shares in
      let none = done_is (fault_of rec (λ h. rebuild_fault h l nodes listed target (length back))) _ done.promise.answered in
      let (sound, own) = none_met rec (λ h. rebuild_fault h l nodes listed target (length back)) none in
      let (is, node, long) = rebuild_accepts h sound l nodes listed target (length back) own in
      (node, rw none at done.promise.written ∙ ap (λ (u : List ℕ). bytes_of (width h) (share_of h l u target)) (recovered_back e nodes is.different))

  -- the setting right writes the shares again
  correct : (wrong wrong' : List ℕ) (count : ℕ) → FewWrong h l shares wrong → CorrectSays rec l wrong wrong' (Ok count) → wrong' ≡ shares
  unfolding corrected_bytes corrected_shares
  correct wrong wrong' count few done =
      let none = done_is (fault_of rec (λ h. correct_fault share_layout h l wrong)) _ done.promise.answered in
      let written = rw none at done.promise.written in
      let now = read_written h wrong' _ written in
      let same : read h wrong' ≡ read h shares =
      lanes_equal share_lawful h.n l (read h wrong') (read h shares)
      (ap length now ∙ length_buffer share_layout h.n l _)
      (ap length e.shares_are ∙ length_shares h l (read h message) share_layout)
      (λ t inside. sym ((corrections.done rec l wrong wrong' count done).only t inside (lane_in h l shares t) (near e wrong few t inside))) in
      written ∙ ap (bytes_of (width h)) (sym now ∙ same ∙ e.shares_are) ∙ sym e.written

  -- Update writes the shares of the message with the new symbol
  update : (r t old new : ℕ) (shares' : List ℕ) (count : ℕ) → UpdateSays rec l r t old new shares shares' (Ok count) → shares' ≡ bytes_of (width h) (shares_of share_layout h l (set (read h message) (r * l + t) new))
  unfolding updated_bytes
  update r t old new shares' count done =
      let none = done_is (fault_of rec (λ h. update_fault share_layout h l r t old new shares)) _ done.promise.answered in
      let (sound, own) = none_met rec (λ h. update_fault share_layout h l r t old new shares) none in
      let (lane, old_symbol, new_symbol, fresh) = update_accepts h sound l r t old new shares own in
      let rows = e.buffer_is.symbol_rows in
      let was : old ≡ get_or (read h message) (r * l + t) 0 = sym fresh.holds ∙ symbol_was e r t lane.row lane.lane in
      rw none at done.promise.written
      ∙ ap (bytes_of (width h))
      (ap₂ (λ (o : ℕ) (s : List ℕ). updated share_layout h l r t o new s) was e.shares_are
      ∙ updated_shares share_lawful h sound l r t new (read h message) rows.long rows.symbols lane.row lane.lane new_symbol)

-- what Encode writes of a message with another symbol
changed : (h : Header) (l r t new : ℕ) (message shares : List ℕ) → Encoded h l (with_symbol h l r t new message) shares → shares ≡ bytes_of (width h) (shares_of share_layout h l (set (read h message) (r * l + t) new))
unfolding with_symbol
changed h l r t new message shares e = e.written ∙ ap (λ (m : List ℕ). bytes_of (width h) (shares_of share_layout h l m)) (symbols_bytes (width h) _ (width_some h))

pub round_trips : RoundTrips
round_trips =
    record {
      cut_long = cut_long;
      cut = λ h l nodes shares full bytes i t v place node inside low. cut_byte h l nodes shares i t v place inside low ∙ share_byte h l shares full bytes (get_or nodes i 0) t v node inside low;
      recover = λ rec l message out shares nodes back back' bytes says done.
          let h = header_of rec in
          let e = encoded rec l message out shares says in
          recover rec l message out shares says nodes back back' done ∙ bytes_symbols (width h) (h.k * l) message (width_some h) e.buffer_is.bytes bytes;
      rebuild = λ rec l message out shares nodes target back back' says done.
          let (node, written) = rebuild rec l message out shares says nodes target back back' done in
          written ∙ sym (cut_share (encoded rec l message out shares says) target node);
      correct = λ rec l message out shares wrong wrong' count says few done. correct rec l message out shares says wrong wrong' count few done;
      update = λ rec l r t old new message out shares shares' again again' count says done later.
          update rec l message out shares says r t old new shares' count done
          ∙ sym (changed (header_of rec) l r t new message again' (encoded rec l (with_symbol (header_of rec) l r t new message) again again' later));
    }
