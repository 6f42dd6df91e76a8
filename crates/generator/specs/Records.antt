-- Records: what one holds, and the numbers 1 to 5 that turn one away.
use Rattle.std.specs.Prelude.{Ok, Err}
use Rattle.generator.specs.Answers.{Answer}
use Rattle.std.specs.Prelude.{◌≡◌, Bool, true, false, ◌&&◌, ◌||◌, not, List, ℕ, zero, suc, ◌+◌, ◌-◌, ◌*◌, ◌≤◌, ◌<◌, eqb, ltb, leb, length, get_or}
use Rattle.lists.specs.Choice.{pick, first_of, when}
use Rattle.field.specs.declared.Field.TheVariants.{Prime, Binary}
use Rattle.field.specs.Primes.{is_prime}
use Rattle.field.specs.Fields.{is_field, size_of, order_of}
use Rattle.field.specs.Kinds.{prime_of, gf256, modulus, usable}
use Rattle.field.specs.Widths.{bytes_for}
use Rattle.scheme.specs.Costs.{floor, ceil}
use Rattle.generator.specs.declared.Header.{Header}

-- a number of two bytes, high byte first
abbrev pub pair_at : List ℕ → ℕ → ℕ
pair_at rec i = get_or rec i 0 * 256 + get_or rec (i + 1) 0

-- kind 1: p, root, n, k; kind 2: root, n, k; kind 3: p and root in two bytes each, n, k
unfoldable pub header_of : List ℕ → Header
header_of rec =
    pick (eqb (get_or rec 0 0) 1)
    (record { field = Prime (prime_of (get_or rec 1 0)); root = get_or rec 2 0; n = get_or rec 3 0; k = get_or rec 4 0 })
    (pick (eqb (get_or rec 0 0) 3)
    (record { field = Prime (prime_of (pair_at rec 1)); root = pair_at rec 3; n = get_or rec 5 0; k = get_or rec 6 0 })
    (record { field = Binary gf256; root = get_or rec 1 0; n = get_or rec 2 0; k = get_or rec 3 0 }))

-- the prime of the record's field, or 0 for the field of 256 elements
abbrev pub modulus_of : Header → ℕ
modulus_of h = modulus h.field

-- the number of the field's symbols
abbrev pub size : Header → ℕ
size h = size_of (modulus_of h)

-- the bytes of a symbol in a lent buffer
unfoldable pub width : Header → ℕ
width h = bytes_for (modulus_of h)

-- d = n − k + 1, the number of nodes that each row of the generator lies on
unfoldable pub distance : Header → ℕ
distance h = h.n - h.k + 1

-- k·d / n rounded down and up: the least and the greatest number of symbols that a node of the plan depends on
unfoldable pub low_reads : Header → ℕ
low_reads h = floor (h.k * distance h) h.n

unfoldable pub high_reads : Header → ℕ
high_reads h = ceil (h.k * distance h) h.n

-- number 1: empty, or of none of the three kinds
unfoldable pub kind_bad : List ℕ → Bool
kind_bad rec = eqb (length rec) 0 || not (eqb (get_or rec 0 0) 1 || (eqb (get_or rec 0 0) 2 || eqb (get_or rec 0 0) 3))

-- number 2: a body of another length than the kind's
unfoldable pub body_bad : List ℕ → Bool
body_bad rec = not (eqb (length rec) (pick (eqb (get_or rec 0 0) 1) 5 (pick (eqb (get_or rec 0 0) 3) 7 4)))

-- p is a prime from `low` to `high`
unfoldable pub prime_in : ℕ → ℕ → ℕ → Bool
prime_in low high p = leb low p && (leb p high && is_prime p)

-- number 3: kind 1, and p is no prime from 3 to 251, or kind 3, and p is none from 257 to 65,521
unfoldable pub field_bad : List ℕ → Bool
field_bad rec =
    pick (eqb (get_or rec 0 0) 1) (not (prime_in 3 251 (get_or rec 1 0)))
    (pick (eqb (get_or rec 0 0) 3) (not (prime_in 257 65521 (pair_at rec 1))) false)

-- number 4: n below 2 or no byte, k zero, or k above n
unfoldable pub size_bad : Header → Bool
size_bad h = ltb h.n 2 || (ltb 255 h.n || (eqb h.k 0 || ltb h.n h.k))

-- number 5: the root is no symbol of order exactly n
unfoldable pub root_bad : Header → Bool
root_bad h = not (ltb h.root (size h) && eqb (order_of (modulus_of h) h.root) h.n)

-- numbers 4 and 5
unfoldable pub header_fault : Header → ℕ
header_fault h = first_of (when (size_bad h) 4) (when (root_bad h) 5)

-- the lowest number that holds, or 0
unfoldable pub record_fault : List ℕ → ℕ
record_fault rec =
    first_of (when (kind_bad rec) 1)
    (first_of (when (body_bad rec) 2)
    (first_of (when (field_bad rec) 3) (header_fault (header_of rec))))

-- a header where the number is 0, else the number
unfoldable pub judged : ℕ → Header → Answer Header
judged zero h = Ok h
judged (suc f) h = Err (suc f)

-- a record as it is read
unfoldable pub record_of : List ℕ → Answer Header
record_of rec = judged (record_fault rec) (header_of rec)

-- what is known of a header that numbers 3 to 5 pass
pub record Sound (h : Header) : Type 0 where
  pub usable_field : usable h.field ≡ true
  pub field : is_field (modulus_of h) ≡ true
  pub two : 2 ≤ h.n
  pub byte : h.n ≤ 255
  pub some : 0 < h.k
  pub fits : h.k ≤ h.n
  pub root_below : h.root < size h
  pub order : order_of (modulus_of h) h.root ≡ h.n
