-- Listed shares of which some are wrong, sentence by sentence, from what the calls promise.
use Rattle.std.specs.Prelude.{Ok, Err}
use Rattle.generator.specs.Answers.{Answer, answer_of}
use mathlib.Core.Path.{◌≡◌, refl, sym, ap, ◌∙◌}
use mathlib.Core.Logic.{◌↔◌, by_cases}
use mathlib.Core.Bool.{Bool, true, false, not}
use mathlib.Core.List.{List}
use Prim.Native.Nat.{ℕ, zero, suc, ◌-◌, ◌*◌, ◌/◌, ◌≤◌, ◌<◌}
use native.Mathlib.Decide.{ℕ_discrete}
use native.Mathlib.Nat.{zero-add}
use native.Mathlib.Omega.{arith}
use borrow.Author.Tests.{ltb-true, eq-eqb}
use lib.Dec.{eqb, ltb}
use lib.ListN.{length, get_or, length-map}
use Rattle.std.proofs.lemmas.Bool.{and_from}
use Rattle.std.proofs.lemmas.List.{get_or-map}
use Rattle.lists.specs.Choice.{first_of, when}
use Rattle.lists.specs.Counting.{differ}
use Rattle.lists.specs.Numbers.{all_below, distinct}
use Rattle.lists.specs.Rows.{range}
use Rattle.lists.proofs.Cases.{by_test, first_zero}
use Rattle.lists.proofs.Count.{count_none}
use Rattle.lists.proofs.Differ.{same_lists}
use Rattle.lists.proofs.Numbers.{all_below_lem, all_distinct}
use Rattle.lists.proofs.Places.{Places-range, length_range, map_range}
use Rattle.lists.proofs.Search.{search_ext, search_none}
use Rattle.layout.specs.Layout.{share_layout, lane_of}
use Rattle.layout.specs.Width.{symbols_of, bytes_of}
use Rattle.layout.proofs.Buffers.{length_lane, lane_symbols}
use Rattle.layout.proofs.Places.{share_lawful}
use Rattle.generator.specs.declared.Header.{Header}
use Rattle.generator.specs.Records.{header_of, record_fault, size, width, Sound}
use Rattle.generator.specs.Codewords.{node_of, encoding}
use Rattle.generator.specs.Claims.{are_nodes, at_nodes}
use Rattle.generator.proofs.Accepts.{faultless_sound}
use Rattle.generator.proofs.Answered.{done_is, refused_is, answer_refused}
use Rattle.refusals.specs.Conditions.{nodes_bad, twice_bad}
use Rattle.refusals.specs.Faults.{list_fault, fault_of}
use Rattle.refusals.proofs.OnRecord.{none_met}
use Rattle.refusals.proofs.Order.{first_given}
use Rattle.blocks.specs.Bytes.{recovered_bytes}
use Rattle.belongs.specs.Promise.{belongs_fault}
use Rattle.recover.specs.Promise.{recover_fault, RecoverSays}
use Rattle.encode.specs.Promise.{EncodeSays}
use Rattle.belongs.proofs.Accepts.{belongs_accepts}
use Rattle.nearest_word.specs.Nearest.{has_near}
use Rattle.correct.specs.Blocks.{first_far, far_bad}
use Rattle.correct.specs.Promise.{correct_fault, CorrectSays}
use Rattle.correct.specs.Meaning.{lane_in}
use Rattle.near_message.specs.Nearest.{has_near_message}
use Rattle.near_message.specs.Inner.Listed.{ListedSymbols}
use Rattle.near_message.proofs.Messages.{one_near}
use Rattle.correct_listed.specs.Blocks.{first_far_listed, far_listed_bad, near_message_bytes}
use Rattle.correct_listed.specs.Promise.{count_bad, listed_fault, correct_listed_fault, CorrectListedSays}
use Rattle.correct_listed.specs.Meaning.{listed_lane, message_lane, CorrectListedDone}
use Rattle.correct_listed.proofs.Accepts.{listed_accepts}
use Rattle.correct_listed.proofs.Meaning.{near_test, listed_done_means}
use Rattle.correct_listed.proofs.Agreement.{lane_recovers, listed_recovers, all_agrees}
use Rattle.demands.specs.ListedCorrections.{ListedCorrections}
use Rattle.demands.proofs.Calls.{call_demands}
use Rattle.demands.proofs.Corrections.{length_passes}
use Rattle.demands.proofs.RoundTrips.{round_trips}
use Rattle.demands.proofs.ListedLanes.{symbols_long, symbols_below}

-- answers with the same number
alike : {A B : Type 0} {a : Answer A} {b : Answer B} {f g : ℕ} (v : A) (u : B) → a ≡ answer_of f v → b ≡ answer_of g u → f ≡ g → (x : ℕ) → (a ≡ Err x) ↔ (b ≡ Err x)
alike {f = f} {g = g} v u is other same x = (
  λ e. let (at, some) = refused_is f v x (sym e ∙ is) in other ∙ ap (λ (n : ℕ). answer_of n u) (sym same ∙ sym at) ∙ answer_refused x u some,
  λ e. let (at, some) = refused_is g u x (sym e ∙ other) in is ∙ ap (λ (n : ℕ). answer_of n v) (same ∙ sym at) ∙ answer_refused x v some,
)

-- calls that meet the same number on an accepted header meet the same on the record
fault_alike : (rec : List ℕ) (f g : Header → ℕ) → (record_fault rec ≡ 0 → f (header_of rec) ≡ g (header_of rec)) → fault_of rec f ≡ fault_of rec g
unfolding fault_of
fault_alike rec f g same = go (record_fault rec) same
  where
    go : (n : ℕ) → (n ≡ 0 → f (header_of rec) ≡ g (header_of rec)) → first_of n (f (header_of rec)) ≡ first_of n (g (header_of rec))
    go zero same = same refl
    go (suc n) same = refl

-- conditions that are not met
not_less : (a b : ℕ) → b ≤ a → ltb a b ≡ false
not_less a b low = by_test (ltb a b) (λ t. absurd (omega (arith, ltb-true a b t))) (λ f. f)

count_passes : (h : Header) (count : ℕ) → h.k ≤ count → count ≤ h.n → count_bad h count ≡ false
unfolding count_bad
count_passes h count enough fits = rw (not_less count h.k enough, not_less h.n count fits) refl

nodes_pass : (h : Header) (nodes : List ℕ) → all_below h.n nodes ≡ true → nodes_bad h nodes ≡ false
unfolding nodes_bad
nodes_pass h nodes e = ap not e

twice_passes : (nodes : List ℕ) → distinct nodes ≡ true → twice_bad nodes ≡ false
unfolding twice_bad
twice_passes nodes e = ap not e

-- k listed nodes
module _ (h : Header) (s : Sound h) (l : ℕ) (nodes shares : List ℕ) (out counts : ℕ) (many : length nodes ≡ h.k) where
  abbrev b : List ℕ
  b = symbols_of (width h) shares

  module _ (none : listed_fault h l nodes shares out counts ≡ 0) where
    different : are_nodes h nodes ≡ true
    unfolding are_nodes
    different =
        let (m, bytes, size_is, places) = listed_accepts h l nodes shares out counts none in
        and_from _ _ (eq-eqb (length nodes) h.k many) (and_from _ _ m.low m.different)

    -- every lane has a message
    never_far : far_listed_bad share_layout h nodes l shares ≡ false
    unfolding far_listed_bad first_far_listed
    never_far =
        ap not
        (eq-eqb _ l
        (search_none l 0 (λ t. has_near_message h nodes (listed_lane h nodes l shares t))
        (λ t low high.
        let inside : t < l = omega arith in
        (lane_recovers h s nodes different (listed_lane h nodes l shares t) (length_lane share_layout (length nodes) l t b ∙ many) (lane_symbols share_lawful (length nodes) l (size h) t b inside (symbols_long h s l nodes shares out counts none) (symbols_below h s l nodes shares out counts none))).0)
        ∙ zero-add l))

  module _ (places : counts ≡ length nodes) where
    given_same : listed_fault h l nodes shares out counts ≡ recover_fault h l nodes shares out
    unfolding listed_fault recover_fault
    given_same = rw (count_passes h (length nodes) (omega (arith, many)) (omega (arith, many, s.fits)), length_passes (length nodes) counts places, length_passes h.k (length nodes) many, many) refl

    recover_same : correct_listed_fault share_layout h l nodes shares out counts ≡ recover_fault h l nodes shares out
    unfolding correct_listed_fault
    recover_same =
        by_cases (ℕ_discrete (listed_fault h l nodes shares out counts) 0)
        (λ none. rw (none, never_far none) (sym none ∙ given_same))
        (λ some. first_given (listed_fault h l nodes shares out counts) _ some ∙ given_same)

-- all nodes in order
module _ (h : Header) (s : Sound h) (l : ℕ) (shares : List ℕ) where
  abbrev all : List ℕ
  all = range 0 h.n

  abbrev held : List ℕ
  held = symbols_of (width h) shares

  far_same : belongs_fault h l shares ≡ 0 → far_listed_bad share_layout h all l shares ≡ far_bad share_layout h l shares
  unfolding far_listed_bad first_far_listed far_bad first_far
  far_same none =
      let rows = (belongs_accepts h s l shares none).symbol_rows in
      ap (λ (x : ℕ). not (eqb x l))
      (search_ext l 0 (λ t. has_near_message h all (lane_of share_layout (length all) l t held)) (λ t. has_near h (lane_of share_layout h.n l t held))
      (λ t low high.
      let inside : t < l = omega arith in
      ap (λ (n : ℕ). has_near_message h all (lane_of share_layout n l t held)) (length_range 0 h.n)
      ∙ (all_agrees h s (lane_of share_layout h.n l t held) (length_lane share_layout h.n l t held) (lane_symbols share_lawful h.n l (size h) t held inside rows.long rows.symbols)).0))

  module _ (out counts : ℕ) (room : out ≡ h.k * l * width h) (places : counts ≡ h.n) where
    given_all : listed_fault h l all shares out counts ≡ belongs_fault h l shares
    unfolding listed_fault list_fault belongs_fault
    given_all =
        let is = Places-range h.n 0 h.n (omega arith) in
        rw (count_passes h (length all) (omega (arith, length_range 0 h.n, s.fits)) (omega (arith, length_range 0 h.n)), length_passes (h.k * l * width h) out room, length_passes (length all) counts (places ∙ sym (length_range 0 h.n)), nodes_pass h all (all_below_lem h.n all is.low), twice_passes all (all_distinct all is.distinct), length_range 0 h.n) refl

    whole_same : correct_listed_fault share_layout h l all shares out counts ≡ correct_fault share_layout h l shares
    unfolding correct_listed_fault correct_fault
    whole_same =
        ap (λ (g : ℕ). first_of g (when (far_listed_bad share_layout h all l shares) 14)) given_all
        ∙ by_cases (ℕ_discrete (belongs_fault h l shares) 0)
        (λ none. ap (λ (x : Bool). first_of (belongs_fault h l shares) (when x 14)) (far_same none))
        (λ some. first_given (belongs_fault h l shares) _ some ∙ sym (first_given (belongs_fault h l shares) _ some))

-- (n − k)/2 where n is k
half_none : (n k : ℕ) → n ≡ k → (n - k) / 2 ≡ 0
half_none n k e = let none : n - k ≡ 0 = omega (arith, e) in ap (λ (x : ℕ). x / 2) none

-- a call that was done
module _ (rec : List ℕ) (l : ℕ) (nodes shares out out' wrong wrong' : List ℕ) (total : ℕ) (says : CorrectListedSays rec l nodes shares out out' wrong wrong' (Ok total)) where
  abbrev h : Header
  h = header_of rec

  no_number : fault_of rec (λ h. correct_listed_fault share_layout h l nodes shares (length out) (length wrong)) ≡ 0
  no_number = done_is _ _ says.promise.answered

  accepted : Sound h × (correct_listed_fault share_layout h l nodes shares (length out) (length wrong) ≡ 0)
  accepted = none_met rec (λ h. correct_listed_fault share_layout h l nodes shares (length out) (length wrong)) no_number

  given : listed_fault h l nodes shares (length out) (length wrong) ≡ 0
  unfolding correct_listed_fault
  given = (first_zero (listed_fault h l nodes shares (length out) (length wrong)) _ accepted.1).0

  is_done : CorrectListedDone h l nodes shares out' wrong' total
  is_done = listed_done_means says

  -- with k nodes
  module _ (many : length nodes ≡ h.k) where
    message_is : (room message : List ℕ) → RecoverSays rec l nodes shares room message (Ok tt) → out' ≡ message
    unfolding near_message_bytes recovered_bytes
    message_is room message done =
        let none = done_is (fault_of rec (λ h. recover_fault h l nodes shares (length room))) _ done.promise.answered in
        rw no_number at says.promise.written
        ∙ ap (bytes_of (width h)) (listed_recovers h accepted.0 nodes (different h accepted.0 l nodes shares (length out) (length wrong) many given) share_lawful l (symbols_of (width h) shares) (symbols_long h accepted.0 l nodes shares (length out) (length wrong) given ∙ ap (λ (n : ℕ). n * l) many) (symbols_below h accepted.0 l nodes shares (length out) (length wrong) given))
        ∙ sym (rw none at done.promise.written)

    none_wrong : (i : ℕ) → i < length nodes → get_or wrong' i 0 ≡ 0
    none_wrong i low =
        is_done.counts i low
        ∙ count_none l 0 _
        (λ t above below.
        let inside : t < l = omega arith in
        let near = is_done.near t inside in
        let ys = listed_lane h nodes l shares t in
        let ms = message_lane h l out' t in
        let none : differ ys (at_nodes h ms nodes) ≡ 0 = omega (arith, near.close, half_none (length nodes) h.k many) in
        let same : ys ≡ at_nodes h ms nodes = same_lists ys (at_nodes h ms nodes) (length_lane share_layout (length nodes) l t (symbols_of (width h) shares) ∙ sym (length-map nodes (node_of h ms))) none in
        ap not (eq-eqb _ _ (ap (λ (us : List ℕ). get_or us i 0) same ∙ get_or-map (node_of h ms) nodes i 0 0 low)))

-- all nodes hold the encoding
all_hold : (h : Header) (ms : List ℕ) → at_nodes h ms (range 0 h.n) ≡ encoding h ms
unfolding encoding
all_hold h ms = map_range (node_of h ms) 0 h.n

-- with all nodes in order: the shares that Correct writes are an encoding of the message
module _ (rec : List ℕ) (l : ℕ) (shares shares' out out' room again wrong wrong' : List ℕ) (total count : ℕ) where
  abbrev h' : Header
  h' = header_of rec

  whole : CorrectListedSays rec l (range 0 h'.n) shares out out' wrong wrong' (Ok total) → CorrectSays rec l shares shares' (Ok count) → EncodeSays rec l out' room again (Ok tt) → again ≡ shares'
  whole says done encodes =
      let lanes = (call_demands.encode rec l out' room again encodes).lanes in
      sym
      (round_trips.correct rec l out' room again shares shares' count encodes
      (λ t inside.
      let near = (listed_done_means says).near t inside in
      let ms = message_lane h' l out' t in
      let long = length_range 0 h'.n in
      let word : at_nodes h' ms (range 0 h'.n) ≡ lane_in h' l again t = all_hold h' ms ∙ sym (lanes t inside) in
      rw (long, word) at near.close)
      done)

pub listed_corrections : ListedCorrections
listed_corrections =
    record {
      one = λ rec none nodes ys ms us low different enough long symbols n m.
          let listed : ListedSymbols (header_of rec) nodes ys = record { low = low; different = different; enough = enough; long = long; symbols = symbols } in
          one_near (header_of rec) (faultless_sound rec none) nodes ys listed ms us n.message m.message (near_test n) (near_test m);
      done = λ rec l nodes shares out out' wrong wrong' total says. listed_done_means says;
      recovers = λ rec l nodes shares out out' room message wrong wrong' total many says done.
          (message_is rec l nodes shares out out' wrong wrong' total says many room message done, none_wrong rec l nodes shares out out' wrong wrong' total says many);
      recover_alike = λ rec l nodes shares out out' room message wrong wrong' a b many size places says done.
          alike _ tt says.promise.answered done.promise.answered
          (fault_alike rec (λ h. correct_listed_fault share_layout h l nodes shares (length out) (length wrong)) (λ h. recover_fault h l nodes shares (length room))
          (λ none. recover_same (header_of rec) (faultless_sound rec none) l nodes shares (length out) (length wrong) many places ∙ ap (recover_fault (header_of rec) l nodes shares) (sym size)));
      whole = whole;
      whole_alike = λ rec l shares shares' out out' wrong wrong' a b room places says done.
          alike _ _ says.promise.answered done.promise.answered
          (fault_alike rec (λ h. correct_listed_fault share_layout h l (range 0 (header_of rec).n) shares (length out) (length wrong)) (λ h. correct_fault share_layout h l shares)
          (λ none. whole_same (header_of rec) (faultless_sound rec none) l shares (length out) (length wrong) room places));
    }
