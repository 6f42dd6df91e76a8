-- The notebook's cases in one table that one statement covers. Blocks are of one lane.
use Rattle.std.specs.Prelude.{Ok, Err}
use mathlib.Core.Path.{◌≡◌, refl}
use mathlib.Core.Bool.{Bool, true, false}
use mathlib.Core.List.{List, [], ◌∷◌}
use Prim.Native.Nat.{ℕ, zero, suc, ◌<◌}
use native.Mathlib.Omega.{arith}
use Rattle.lists.specs.Counting.{count_from, differ}
use Rattle.lists.specs.Numbers.{all_below, is_in, distinct}
use Rattle.lists.specs.Rows.{from}
use Rattle.lists.proofs.All.{All}
use Rattle.layout.specs.Layout.{row_after_row, lane_after_lane, held, lane_of, buffer, with_lane, share_layout}
use Rattle.layout.proofs.Places.{share_lawful}
use Rattle.field.specs.Primes.{divides_some, is_prime}
use Rattle.field.specs.Bytes.{times_x, product_from, product}
use Rattle.field.specs.Fields.{size_of, add, sub, mul, power, order_from, order_of}
use Rattle.field.specs.Kinds.{modulus}
use Rattle.generator.specs.Records.{header_of, distance, low_reads, high_reads, kind_bad, body_bad, prime_in, field_bad, size_bad, root_bad, header_fault, record_fault, judged, record_of}
use Rattle.generator.specs.Shifts.{gcd_from, gcd, shifts_from, even_shifts, negative, period, laid_at, laid_shifts, is_even, shifts_of, shifts, firsts_of, firsts}
use Rattle.generator.specs.Generator.{base_from, base_at, entry_at, entry, base_word}
use Rattle.generator.specs.Claims.{reads, are_nodes}
use Rattle.generator.specs.Codewords.{node_from, node_of}
use Rattle.generator.proofs.Accepts.{accepted_sound}
use Rattle.blocks.specs.Blocks.{share_at, share_of, shares_of, added_at, row_added, updated, recovered}
use Rattle.blocks.proofs.Recovered.{recovered_only}
use Rattle.refusals.specs.Conditions.{lanes_bad}

-- a case of the notebook
pub data Case : Type 0 where
  -- a record, its n, k, d, k·d / n rounded down and up, its shifts, its first nodes and the rows of its generator
  sheet : (rec : List ℕ) (n k d low high : ℕ) (shifts firsts : List ℕ) (rows : List (List ℕ)) → Case
  -- a record that is not shared out evenly, and how many symbols each node depends on
  uneven : (rec counts : List ℕ) → Case
  -- a record, a message and its shares
  encodes : (rec message shares : List ℕ) → Case
  -- a record, shares, a symbol number, its old and new symbol, the shares afterwards and how many symbols differ
  updates : (rec shares : List ℕ) (r old new : ℕ) (after : List ℕ) (count : ℕ) → Case
  -- a record, nodes and their shares, the message, a target and its share
  recovers : (rec nodes shares message : List ℕ) (target : ℕ) (share : List ℕ) → Case
  -- a record and the number that turns it away
  refused : (rec : List ℕ) (number : ℕ) → Case
  -- a number of lanes, and whether it meets number 7
  lanes : (count : ℕ) (bad : Bool) → Case

-- what a case says of the definitions
unfoldable pub Says : Case → Type 0
Says (sheet rec n k d low high ss fs rows) =
    let h = header_of rec in
    (record_of rec ≡ Ok h) × (h.n ≡ n) × (h.k ≡ k) × (distance h ≡ d) × (low_reads h ≡ low) × (high_reads h ≡ high) × (shifts h ≡ ss) × (firsts h ≡ fs) × (from (λ r. from (entry h r) 0 n) 0 k ≡ rows)
Says (uneven rec counts) = let h = header_of rec in (is_even h.n h.k ≡ false) × (from (reads h) 0 h.n ≡ counts)
Says (encodes rec message shares) = shares_of share_layout (header_of rec) 1 message ≡ shares
Says (updates rec shares r old new after count) = (updated share_layout (header_of rec) 1 r 0 old new shares ≡ after) × (differ shares after ≡ count)
Says (recovers rec nodes shares message target share) = (recovered share_layout (header_of rec) 1 nodes shares ≡ message) × (share_of (header_of rec) 1 message target ≡ share)
Says (refused rec number) = record_of rec ≡ Err number
Says (lanes count bad) = lanes_bad count ≡ bad

unfoldable pub notebook : List Case
notebook =
    sheet (1 ∷ 7 ∷ 3 ∷ 6 ∷ 4 ∷ []) 6 4 3 2 2 (0 ∷ 1 ∷ 3 ∷ 4 ∷ []) (0 ∷ 5 ∷ 3 ∷ 2 ∷ []) (
    (4 ∷ 6 ∷ 3 ∷ 0 ∷ 0 ∷ 0 ∷ [])
    ∷ (6 ∷ 3 ∷ 0 ∷ 0 ∷ 0 ∷ 4 ∷ [])
    ∷ (0 ∷ 0 ∷ 0 ∷ 4 ∷ 6 ∷ 3 ∷ [])
    ∷ (0 ∷ 0 ∷ 4 ∷ 6 ∷ 3 ∷ 0 ∷ [])
    ∷ []
    )
    ∷ sheet (1 ∷ 7 ∷ 3 ∷ 6 ∷ 3 ∷ []) 6 3 4 2 2 (0 ∷ 2 ∷ 4 ∷ []) (0 ∷ 4 ∷ 2 ∷ []) ((6 ∷ 1 ∷ 3 ∷ 1 ∷ 0 ∷ 0 ∷ []) ∷ (3 ∷ 1 ∷ 0 ∷ 0 ∷ 6 ∷ 1 ∷ []) ∷ (0 ∷ 0 ∷ 6 ∷ 1 ∷ 3 ∷ 1 ∷ []) ∷ [])
    ∷ encodes (1 ∷ 7 ∷ 3 ∷ 6 ∷ 3 ∷ []) (1 ∷ 0 ∷ 2 ∷ []) (6 ∷ 1 ∷ 1 ∷ 3 ∷ 6 ∷ 2 ∷ [])
    ∷ updates (1 ∷ 7 ∷ 3 ∷ 6 ∷ 3 ∷ []) (6 ∷ 1 ∷ 1 ∷ 3 ∷ 6 ∷ 2 ∷ []) 1 0 5 (0 ∷ 6 ∷ 1 ∷ 3 ∷ 1 ∷ 0 ∷ []) 4
    ∷ updates (1 ∷ 7 ∷ 3 ∷ 6 ∷ 3 ∷ []) (6 ∷ 1 ∷ 1 ∷ 3 ∷ 6 ∷ 2 ∷ []) 1 0 0 (6 ∷ 1 ∷ 1 ∷ 3 ∷ 6 ∷ 2 ∷ []) 0
    ∷ recovers (1 ∷ 7 ∷ 3 ∷ 6 ∷ 3 ∷ []) (2 ∷ 3 ∷ 4 ∷ []) (1 ∷ 3 ∷ 1 ∷ []) (1 ∷ 5 ∷ 2 ∷ []) 0 (0 ∷ [])
    ∷ encodes (1 ∷ 7 ∷ 3 ∷ 6 ∷ 4 ∷ []) (1 ∷ 1 ∷ 0 ∷ 0 ∷ []) (3 ∷ 2 ∷ 3 ∷ 0 ∷ 0 ∷ 4 ∷ [])
    ∷ sheet (1 ∷ 7 ∷ 3 ∷ 6 ∷ 1 ∷ []) 6 1 6 1 1 (0 ∷ []) (0 ∷ []) ((1 ∷ 1 ∷ 1 ∷ 1 ∷ 1 ∷ 1 ∷ []) ∷ [])
    ∷ sheet (2 ∷ 214 ∷ 3 ∷ 3 ∷ []) 3 3 1 1 1 (0 ∷ 1 ∷ 2 ∷ []) (0 ∷ 2 ∷ 1 ∷ []) ((214 ∷ 0 ∷ 0 ∷ []) ∷ (0 ∷ 0 ∷ 214 ∷ []) ∷ (0 ∷ 214 ∷ 0 ∷ []) ∷ [])
    ∷ sheet (1 ∷ 7 ∷ 3 ∷ 6 ∷ 2 ∷ []) 6 2 5 1 2 (0 ∷ 1 ∷ []) (0 ∷ 5 ∷ []) ((2 ∷ 1 ∷ 5 ∷ 3 ∷ 4 ∷ 0 ∷ []) ∷ (1 ∷ 5 ∷ 3 ∷ 4 ∷ 0 ∷ 2 ∷ []) ∷ [])
    ∷ uneven (1 ∷ 7 ∷ 3 ∷ 6 ∷ 2 ∷ []) (2 ∷ 2 ∷ 2 ∷ 2 ∷ 1 ∷ 1 ∷ [])
    ∷ sheet (1 ∷ 7 ∷ 3 ∷ 6 ∷ 5 ∷ []) 6 5 2 1 2 (0 ∷ 4 ∷ 2 ∷ 5 ∷ 3 ∷ []) (0 ∷ 2 ∷ 4 ∷ 1 ∷ 3 ∷ []) ((2 ∷ 4 ∷ 0 ∷ 0 ∷ 0 ∷ 0 ∷ []) ∷ (0 ∷ 0 ∷ 2 ∷ 4 ∷ 0 ∷ 0 ∷ []) ∷ (0 ∷ 0 ∷ 0 ∷ 0 ∷ 2 ∷ 4 ∷ []) ∷ (0 ∷ 2 ∷ 4 ∷ 0 ∷ 0 ∷ 0 ∷ []) ∷ (0 ∷ 0 ∷ 0 ∷ 2 ∷ 4 ∷ 0 ∷ []) ∷ [])
    ∷ uneven (1 ∷ 7 ∷ 3 ∷ 6 ∷ 5 ∷ []) (1 ∷ 2 ∷ 2 ∷ 2 ∷ 2 ∷ 1 ∷ [])
    ∷ refused (1 ∷ 7 ∷ 2 ∷ 6 ∷ 3 ∷ []) 5
    ∷ lanes 1 false
    ∷ lanes 4096 false
    ∷ lanes 0 true
    ∷ lanes 4097 true
    ∷ []

-- what holds of the first lane holds of each of one
one_lane : (P : ℕ → Type 0) → P 0 → (t : ℕ) → t < 1 → P t
one_lane P p zero inside = p
one_lane P p (suc t) inside = absurd (omega arith)

-- every case of the table holds
pub notebook_holds : All Says notebook
unfolding Says notebook record_of judged record_fault header_fault kind_bad body_bad field_bad prime_in size_bad root_bad header_of distance low_reads high_reads firsts_of shifts_of is_even even_shifts shifts_from laid_shifts laid_at period negative gcd gcd_from reads base_word entry entry_at base_at base_from node_from node_of row_after_row lane_after_lane held lane_of buffer with_lane share_layout share_at share_of shares_of added_at row_added updated lanes_bad differ count_from from all_below distinct is_in are_nodes modulus size_of add sub mul power order_of order_from product product_from times_x is_prime divides_some
notebook_holds = ((refl, refl, refl, refl, refl, refl, refl, refl, refl), ((refl, refl, refl, refl, refl, refl, refl, refl, refl), (refl, ((refl, refl), ((refl, refl), ((recovered_only _ (accepted_sound (1 ∷ 7 ∷ 3 ∷ 6 ∷ 3 ∷ []) _ refl) (2 ∷ 3 ∷ 4 ∷ []) refl share_lawful 1 _ _ (record { size_is = refl; symbols = refl; lanes = one_lane _ refl }), refl), (refl, ((refl, refl, refl, refl, refl, refl, refl, refl, refl), ((refl, refl, refl, refl, refl, refl, refl, refl, refl), ((refl, refl, refl, refl, refl, refl, refl, refl, refl), ((refl, refl), ((refl, refl, refl, refl, refl, refl, refl, refl, refl), ((refl, refl), (refl, (refl, (refl, (refl, (refl, tt))))))))))))))))))
