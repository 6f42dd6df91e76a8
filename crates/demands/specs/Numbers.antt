-- The numbers that turn each call away, with their conditions in plain terms. `out` and the like are lengths of buffers that are written.
use Rattle.std.specs.Prelude.{◌≡◌, ◌≢◌, ◌⊎◌, true, List, [], ◌∷◌, ◌++◌, ℕ, ◌+◌, ◌*◌, ◌^◌, ◌≤◌, ◌<◌, length, get_or}
use Rattle.generator.specs.declared.Header.{Header}
use Rattle.generator.specs.Records.{header_of, modulus_of, size, width}
use Rattle.generator.specs.Codewords.{encoding}
use Rattle.generator.specs.Claims.{is_message, Codeword}
use Rattle.generator.specs.Pinned.{PrimeFrom, HasOrder}
use Rattle.correct.specs.Meaning.{NearWord, lane_in}
use Rattle.update_lanes.specs.Runs.{run_length}
use Rattle.correct_listed.specs.Meaning.{NearMessage, listed_lane}
use Rattle.demands.specs.Judging.{Table}
use Rattle.demands.specs.Calls.{read}

-- some number of a list is a or more
abbrev pub SomeFrom : ℕ → List ℕ → Type 0
SomeFrom a xs = (i : ℕ) × (i < length xs) × (a ≤ get_or xs i 0)

-- some number stands at two places of a list
abbrev pub SomeTwice : List ℕ → Type 0
SomeTwice xs = (i : ℕ) × (i' : ℕ) × (i < i') × (i' < length xs) × (get_or xs i 0 ≡ get_or xs i' 0)

-- the kind of a record: its first byte
abbrev pub kind : List ℕ → ℕ
kind rec = get_or rec 0 0

-- numbers 1 to 5, of every call
abbrev pub record_numbers : List ℕ → Table
record_numbers rec =
    let h = header_of rec in
    (1, (length rec ≡ 0) ⊎ ((kind rec ≢ 1) × (kind rec ≢ 2) × (kind rec ≢ 3)))
    ∷ (2, ((kind rec ≡ 1) × (length rec ≢ 5)) ⊎ ((kind rec ≡ 2) × (length rec ≢ 4)) ⊎ ((kind rec ≡ 3) × (length rec ≢ 7)))
    ∷ (3, ((kind rec ≡ 1) × (PrimeFrom 3 251 (get_or rec 1 0) → ⊥)) ⊎ ((kind rec ≡ 3) × (PrimeFrom 257 65521 (get_or rec 1 0 * 256 + get_or rec 2 0) → ⊥)))
    ∷ (4, (h.n < 2) ⊎ (255 < h.n) ⊎ (h.k ≡ 0) ⊎ (h.n < h.k))
    ∷ (5, HasOrder (size h) (modulus_of h) h.root h.n → ⊥)
    ∷ []

-- number 7: no lane, or more than 4,096
abbrev pub OtherLanes : ℕ → Type 0
OtherLanes l = (l ≡ 0) ⊎ (4096 < l)

-- number 11: a buffer that is read holds a number that is no symbol
abbrev pub OtherSymbols : Header → List ℕ → Type 0
OtherSymbols h s = SomeFrom (size h) (read h s)

-- Encode
abbrev pub encode_numbers : Header → ℕ → List ℕ → ℕ → Table
encode_numbers h l message out_len =
    (7, OtherLanes l)
    ∷ (8, length message ≢ h.k * l * width h)
    ∷ (8, out_len ≢ h.n * l * width h)
    ∷ (11, OtherSymbols h message)
    ∷ []

-- Update: what it is given, then a lane that is no word, or whose message holds another symbol than the old one
abbrev pub given_numbers : Header → ℕ → ℕ → ℕ → ℕ → ℕ → List ℕ → Table
given_numbers h l r t old new shares =
    (7, OtherLanes l)
    ∷ (8, length shares ≢ h.n * l * width h)
    ∷ (9, h.k ≤ r)
    ∷ (9, l ≤ t)
    ∷ (11, size h ≤ old)
    ∷ (11, size h ≤ new)
    ∷ (11, SomeFrom (size h) (lane_in h l shares t))
    ∷ []

abbrev pub stale_numbers : Header → List ℕ → ℕ → ℕ → Table
stale_numbers h ws r old =
    (12, Codeword h ws → ⊥)
    ∷ (13, (ms : List ℕ) × (is_message h ms ≡ true) × (encoding h ms ≡ ws) × (get_or ms r 0 ≡ old → ⊥))
    ∷ []

abbrev pub update_numbers : Header → ℕ → ℕ → ℕ → ℕ → ℕ → List ℕ → Table
update_numbers h l r t old new shares = given_numbers h l r t old new shares ++ stale_numbers h (lane_in h l shares t) r old

-- Update of a run of lanes, of which there are as many as old symbols: what it is given ..
abbrev pub run_input_numbers : Header → ℕ → ℕ → ℕ → List ℕ → List ℕ → List ℕ → Table
run_input_numbers h l r first old new shares =
    let m = run_length h old in
    (7, OtherLanes l)
    ∷ (8, length shares ≢ h.n * l * width h)
    ∷ (8, length old ≢ m * width h)
    ∷ (8, length new ≢ m * width h)
    ∷ (9, h.k ≤ r)
    ∷ (9, l < first + m)
    ∷ (11, OtherSymbols h old)
    ∷ (11, OtherSymbols h new)
    ∷ (11, (i : ℕ) × (i < m) × SomeFrom (size h) (lane_in h l shares (first + i)))
    ∷ []

-- .. then the first lane of the run that may not change: one that may encodes a message with the old symbol
abbrev pub MayChange : Header → List ℕ → ℕ → ℕ → Type 0
MayChange h ws r old = (ms : List ℕ) × (is_message h ms ≡ true) × (encoding h ms ≡ ws) × (get_or ms r 0 ≡ old)

abbrev pub LanesBefore : Header → ℕ → ℕ → ℕ → List ℕ → List ℕ → ℕ → Type 0
LanesBefore h l r first old shares i = (x : ℕ) → x < i → MayChange h (lane_in h l shares (first + x)) r (get_or (read h old) x 0)

abbrev pub run_stale_numbers : Header → ℕ → ℕ → ℕ → List ℕ → List ℕ → Table
run_stale_numbers h l r first old shares =
    let m = run_length h old in
    (12, (i : ℕ) × (i < m) × LanesBefore h l r first old shares i × (Codeword h (lane_in h l shares (first + i)) → ⊥))
    ∷ (13, (i : ℕ) × (i < m) × LanesBefore h l r first old shares i × ((ms : List ℕ) × (is_message h ms ≡ true) × (encoding h ms ≡ lane_in h l shares (first + i)) × (get_or ms r 0 ≡ get_or (read h old) i 0 → ⊥)))
    ∷ []

abbrev pub run_numbers : Header → ℕ → ℕ → ℕ → List ℕ → List ℕ → List ℕ → Table
run_numbers h l r first old new shares = run_input_numbers h l r first old new shares ++ run_stale_numbers h l r first old shares

-- Recover
abbrev pub recover_numbers : Header → ℕ → List ℕ → List ℕ → ℕ → Table
recover_numbers h l nodes shares out_len =
    (7, OtherLanes l)
    ∷ (8, length nodes ≢ h.k)
    ∷ (8, length shares ≢ h.k * l * width h)
    ∷ (8, out_len ≢ h.k * l * width h)
    ∷ (9, SomeFrom h.n nodes)
    ∷ (10, SomeTwice nodes)
    ∷ (11, OtherSymbols h shares)
    ∷ []

-- Rebuild
abbrev pub rebuild_numbers : Header → ℕ → List ℕ → List ℕ → ℕ → ℕ → Table
rebuild_numbers h l nodes shares target out_len =
    (7, OtherLanes l)
    ∷ (8, length nodes ≢ h.k)
    ∷ (8, length shares ≢ h.k * l * width h)
    ∷ (8, out_len ≢ l * width h)
    ∷ (9, h.n ≤ target)
    ∷ (9, SomeFrom h.n nodes)
    ∷ (10, SomeTwice nodes)
    ∷ (11, OtherSymbols h shares)
    ∷ []

-- Belongs
abbrev pub belongs_numbers : Header → ℕ → List ℕ → Table
belongs_numbers h l shares =
    (7, OtherLanes l)
    ∷ (8, length shares ≢ h.n * l * width h)
    ∷ (11, OtherSymbols h shares)
    ∷ []

-- setting a block right: some lane has no word within (n − k)/2 nodes
abbrev pub correct_numbers : Header → ℕ → List ℕ → Table
correct_numbers h l shares =
    belongs_numbers h l shares
    ++ ((14, (t : ℕ) × (t < l) × ((us : List ℕ) → NearWord h (lane_in h l shares t) us → ⊥)) ∷ [])

-- listed shares, k of them to n: some lane has no message within (s − k)/2 of its s symbols
abbrev pub listed_numbers : Header → ℕ → List ℕ → List ℕ → ℕ → ℕ → Table
listed_numbers h l nodes shares out_len count =
    (7, OtherLanes l)
    ∷ (8, (length nodes < h.k) ⊎ (h.n < length nodes))
    ∷ (8, length shares ≢ length nodes * l * width h)
    ∷ (8, out_len ≢ h.k * l * width h)
    ∷ (8, count ≢ length nodes)
    ∷ (9, SomeFrom h.n nodes)
    ∷ (10, SomeTwice nodes)
    ∷ (11, OtherSymbols h shares)
    ∷ []

abbrev pub correct_listed_numbers : Header → ℕ → List ℕ → List ℕ → ℕ → ℕ → Table
correct_listed_numbers h l nodes shares out_len count =
    listed_numbers h l nodes shares out_len count
    ++ ((14, (t : ℕ) × (t < l) × ((ms : List ℕ) → NearMessage h nodes (listed_lane h nodes l shares t) ms → ⊥)) ∷ [])

-- rows of shares rearranged: of all n nodes, or of k listed ones
abbrev pub rearrange_numbers : Header → ℕ → ℕ → ℕ → ℕ → Table
rearrange_numbers h rows l source_len out_len =
    (7, OtherLanes l)
    ∷ (8, source_len ≢ rows * l * width h)
    ∷ (8, out_len ≢ rows * l * width h)
    ∷ []

-- differences: rows of symbols of one symbol number
abbrev pub differences_numbers : Header → ℕ → ℕ → List ℕ → List ℕ → ℕ → Table
differences_numbers h l r old new out_len =
    (7, OtherLanes l)
    ∷ (8, length old ≢ l * width h)
    ∷ (8, length new ≢ l * width h)
    ∷ (8, out_len ≢ h.n * l * width h)
    ∷ (9, h.k ≤ r)
    ∷ (11, OtherSymbols h old)
    ∷ (11, OtherSymbols h new)
    ∷ []

-- add_share
abbrev pub add_numbers : Header → ℕ → List ℕ → List ℕ → Table
add_numbers h l difference share =
    (7, OtherLanes l)
    ∷ (8, length difference ≢ l * width h)
    ∷ (8, length share ≢ l * width h)
    ∷ (11, OtherSymbols h difference)
    ∷ (11, OtherSymbols h share)
    ∷ []

-- find_update
abbrev pub find_numbers : Header → List ℕ → List ℕ → Table
find_numbers h before after =
    (8, length before ≢ h.n * width h)
    ∷ (8, length after ≢ h.n * width h)
    ∷ (11, OtherSymbols h before)
    ∷ (11, OtherSymbols h after)
    ∷ []

-- single_mends
abbrev pub mends_numbers : Header → List ℕ → ℕ → ℕ → Table
mends_numbers h lane nodes_len symbols_len =
    (8, length lane ≢ h.n * width h)
    ∷ (8, nodes_len ≢ h.n)
    ∷ (8, symbols_len ≢ h.n * width h)
    ∷ (11, OtherSymbols h lane)
    ∷ []

-- weight_counts: more than 65,536 messages
abbrev pub weights_numbers : Header → ℕ → Table
weights_numbers h out_len = (8, out_len ≢ h.n + 1) ∷ (16, 65536 < size h ^ h.k) ∷ []
