-- What each kind of field makes of the lists, the tables and the outputs.
use Rattle.std.proofs.Common.{◌≡◌, ℕ, ◌*◌, ◌/◌, ◌<◌, ◌≤◌, true, List, ◌++◌, length, refl, ap, ◌∙◌, arith, length-append}
use Rattle.std.proofs.Props.{props}
use mathlib.Core.Logic.{by_cases, ∥∥₁_elim}
use native.Mathlib.Decide.{dec_lt}
use lib.ListN.{get_or-append}
use Rattle.lists.specs.Numbers.{all_below}
use Rattle.field.specs.declared.prime.PrimeField.{PrimeField}
use Rattle.field.specs.declared.gf256.Gf256.{Gf256}
use Rattle.field.specs.declared.Field.TheVariants.{Prime, Binary}
use Rattle.field.specs.Fields.{size_of}
use Rattle.field.specs.Kinds.{modulus, usable}
use Rattle.field.specs.Primes.{is_prime}
use Rattle.field.specs.Widths.{bytes_for}
use Rattle.field.proofs.KindLaws.{usable_prime}
use Rattle.field.proofs.Meanings.{prime_size}
use Rattle.field.proofs.Primes.{two≤prime}
use Rattle.field.proofs.Widths.{one_byte, two_bytes}
use Rattle.subset_sums.specs.Inner.Subsets.{table_of}
use Rattle.subset_sums.specs.Inner.Lists.{turns_of, Slices, Listing, Grouped}
use Rattle.subset_sums.specs.Inner.Spread.{spreads}
use Rattle.subset_sums.proofs.Right.{output_right, listing_slices}
use Rattle.tile_products.specs.Inner.Ratios.{Scaled, InScale}
use Rattle.tile_products.specs.Inner.Products.{groups_of, Codes, InFrontOf, Prepared, Lists, Loaded, OutputRows}
use Rattle.tile_products.proofs.Scaling.{scaled_alone}
use Rattle.tile_products.proofs.Lanes.{output_front, one_row}

pub groups_room : (rows : ℕ) → rows ≤ 4 * groups_of rows
unfolding groups_of
groups_room rows = omega arith

-- a prime of either width
module _ (p : ℕ) (prime : is_prime p ≡ true) where
  pub prime_one : p ≤ 256 → bytes_for p ≡ 1
  prime_one few = one_byte p (rw (prime_size p prime) few)

  pub prime_two : 256 < p → bytes_for p ≡ 2
  prime_two many = two_bytes p (rw (prime_size p prime) many)

  module _ {ws list counts : List ℕ} (few : length ws ≤ 255) (below : all_below p ws ≡ true) (long : length list ≡ 8 * groups_of (length ws)) (counted : length counts ≡ 8) where
    pub lists_one : p ≤ 256 → Scaled p ws list → Prepared p ws list counts
    lists_one low s =
        record { few = few; below = rw (prime_size p prime) below; long = long; counted = counted; slices = λ e. absurd (omega (arith, two≤prime p prime)); ratios = λ h less. s; plain = λ more. absurd (omega arith) }

    pub lists_two : 256 < p → InFrontOf ws list → Prepared p ws list counts
    lists_two many s =
        record { few = few; below = rw (prime_size p prime) below; long = long; counted = counted; slices = λ e. absurd (omega arith); ratios = λ h less. absurd (omega arith); plain = λ more. s }

-- a list that begins with the weights
pub plain_list : {ws list : List ℕ} (rest : List ℕ) → list ≡ ws ++ rest → InFrontOf ws list
plain_list {ws} {list} rest e = rw e record { long = omega (arith, length-append ws rest); weights = λ i h. get_or-append ws rest 0 i h }

-- the groups of lists that are made
pub lists_groups : {p rows : ℕ} {list counts : List ℕ} → ∥ Lists p rows list counts ∥₁ → length list / 8 ≡ groups_of rows
lists_groups {p} {rows} {list} {counts} made =
    ∥∥₁_elim made (hlevel props) (λ l. let long : length list ≡ 8 * groups_of rows = rw l.size at l.prepared.long in omega (arith, long))

module _ (f : PrimeField) (u : usable (Prime f) ≡ true) {rows : ℕ} {list counts : List ℕ} where
  -- what the sums of a prime need
  pub prime_ready : ∥ Lists (modulus (Prime f)) rows list counts ∥₁ → (rows ≤ length list) × (f.p ≤ 256 → InScale f.p rows list)
  unfolding modulus
  prime_ready made =
      ∥∥₁_elim made (hlevel props)
      (λ l.
      let k = usable_prime f u in
      let below = rw k.2 at l.prepared.below in (
        omega (arith, l.prepared.long, l.size, groups_room (length l.weights)),
        λ few. scaled_alone f.p rows l.weights list l.size below (l.prepared.ratios (omega (arith, two≤prime f.p k.1)) few),
      ))

  pub prime_output : {tile out : List ℕ} → OutputRows f.p rows list tile out → (ws : List ℕ) → length ws ≡ rows → Prepared (modulus (Prime f)) ws list counts → OutputRows (modulus (Prime f)) rows ws tile out
  unfolding modulus
  prime_output o ws size made =
      let room : rows ≤ length list = omega (arith, made.long, groups_room (length ws)) in
      let k = usable_prime f u in
      output_front room (omega arith)
      (λ i h.
      by_cases (dec_lt 256 f.p)
      (λ many. (made.plain many).weights i (omega arith))
      (λ few. (made.ratios (omega (arith, two≤prime f.p k.1)) (omega arith)).weights i (omega arith)))
      o

pub prime_loaded : (f : PrimeField) → usable (Prime f) ≡ true → {groups : ℕ} {tile table : List ℕ} → groups ≤ 64 → length tile ≡ groups * (bytes_for (modulus (Prime f)) * 256) → length table ≡ groups * 1024 → Loaded (modulus (Prime f)) groups tile table
unfolding modulus
prime_loaded f u few long table_long = record { few = few; long = long; table_long = table_long; sums = λ e. absurd (omega (arith, two≤prime f.p (usable_prime f u).1)) }

module _ (g : Gf256) where
  pub byte_codes : {codes : List ℕ} → codes ≡ spreads → Codes (modulus (Binary g)) codes
  unfolding modulus
  byte_codes e = record { digits = λ z. e; ratios = λ h few. absurd (omega arith) }

  pub list_ready : {codes : List ℕ} (ws : List ℕ) → Codes (modulus (Binary g)) codes → all_below (size_of (modulus (Binary g))) ws ≡ true → (codes ≡ spreads) × (all_below 256 ws ≡ true)
  unfolding modulus size_of
  list_ready ws known below = (known.digits refl, below)

  pub byte_lists : {ws list counts : List ℕ} (groups : ℕ) → groups ≡ groups_of (length ws) → length ws ≤ 255 → all_below (size_of (modulus (Binary g))) ws ≡ true → Listing groups ws list counts → Prepared (modulus (Binary g)) ws list counts
  unfolding modulus
  byte_lists groups e few below l = record { few = few; below = below; long = omega (arith, l.long); counted = l.counted; slices = λ z. rw (← e) l; ratios = λ h low. absurd (omega arith); plain = λ h. absurd (omega arith) }

  pub byte_one : bytes_for (modulus (Binary g)) ≡ 1
  unfolding modulus size_of
  byte_one = one_byte 0 (omega arith)

  pub byte_loaded : {groups : ℕ} {tile table : List ℕ} → groups ≤ 64 → length tile ≡ groups * (bytes_for (modulus (Binary g)) * 256) → length table ≡ groups * 1024 → table ≡ table_of groups tile → Loaded (modulus (Binary g)) groups tile table
  byte_loaded few long table_long e = record { few = few; long = long; table_long = table_long; sums = λ z. e }

  module _ {rows groups : ℕ} {list counts tile table : List ℕ} (is : groups ≡ groups_of rows) (t : Loaded (modulus (Binary g)) (groups_of rows) tile table) where
    pub byte_ready : ∥ Lists (modulus (Binary g)) rows list counts ∥₁ → Slices groups table list counts
    unfolding modulus
    byte_ready made =
        ∥∥₁_elim made (hlevel props)
        (λ l.
        let made = rw l.size at (l.prepared.slices refl) in
        rw is (listing_slices (groups_of rows) l.weights table list counts made t.table_long))

    pub byte_output : {out : List ℕ} → rows ≤ 255 → all_below 256 tile ≡ true → out ≡ turns_of 8 groups table list counts → (ws : List ℕ) → length ws ≡ rows → Prepared (modulus (Binary g)) ws list counts → OutputRows (modulus (Binary g)) rows ws tile out
    unfolding modulus size_of
    byte_output few bytes e ws size made =
        let long : length tile ≡ groups_of rows * 256 = t.long ∙ ap (λ (x : ℕ). groups_of rows * (x * 256)) byte_one in
        let grouped : Grouped rows (groups_of rows) ws tile = record { few = few; room = groups_room rows; long = long; symbols = bytes; weights = size; weights_below = made.below } in
        let listing = rw size at (made.slices refl) in
        one_row 0 rows ws tile byte_one
        (e
        ∙ ap (λ (n : ℕ). turns_of 8 n table list counts) is
        ∙ ap (λ (s : List ℕ). turns_of 8 (groups_of rows) s list counts) (t.sums refl)
        ∙ output_right rows (groups_of rows) ws tile grouped list counts listing)
