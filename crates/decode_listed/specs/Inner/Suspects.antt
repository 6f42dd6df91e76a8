-- Check sums cleared of the lost nodes, and the nodes that may be wrong.
use Rattle.std.specs.Prelude.{◌≡◌, true, ◌||◌, List, ℕ, ◌+◌, ◌-◌, ◌≤◌, length, take, drop}
use Rattle.lists.specs.Counting.{passing_from}
use Rattle.lists.specs.Numbers.{all_below, is_in}
use Rattle.lists.specs.Padded.{padded}
use Rattle.lists.specs.Rows.{from}
use Rattle.field.specs.Inner.Sums.{dot}
use Rattle.generator.specs.declared.Header.{Header}
use Rattle.generator.specs.Records.{modulus_of}
use Rattle.interpolation.specs.Inner.Points.{points_of}
use Rattle.interpolation.specs.Inner.Polynomials.{product_of}
use Rattle.near_message.specs.Inner.Lost.{lost_radius}
use Rattle.decode.specs.Inner.Errors.{roots_of}
use Rattle.decode.specs.Inner.Locating.{Locates}

-- sums of the weights vs times the symbols from each of the first places on, with zeros after them
unfoldable pub sums_from : ℕ → List ℕ → List ℕ → ℕ → List ℕ
sums_from p vs ys count = padded 255 (from (λ e. dot p vs (drop e ys)) 0 count)

-- the coefficients of the product over the points of the lost nodes
unfoldable pub lost_product : Header → List ℕ → List ℕ
lost_product h lost = product_of (modulus_of h) (points_of (modulus_of h) h.root 0 lost)

-- the check sums cleared of the lost nodes
unfoldable pub cleared_sums : Header → List ℕ → List ℕ → List ℕ
cleared_sums h lost sums = sums_from (modulus_of h) (lost_product h lost) sums (h.n - h.k - length lost)

-- the nodes that are lost or at whose points the polynomial with the coefficients cs vanishes
unfoldable pub suspects_of : Header → List ℕ → List ℕ → List ℕ
suspects_of h lost cs = passing_from h.n 0 (λ j. is_in j lost || is_in j (roots_of (modulus_of h) h.root h.n cs))

-- lost nodes that leave k others
pub record AreLost (h : Header) (lost : List ℕ) : Type 0 where
  pub low : all_below h.n lost ≡ true
  pub room : length lost + h.k ≤ h.n

-- of at most 255 nodes those that are lost or at which a locator of the cleared check sums vanishes
pub record Suspects (h : Header) (lost sums nodes : List ℕ) : Type 0 where
  pub few : h.n ≤ 255
  pub locator : List ℕ
  pub locates : Locates (modulus_of h) (lost_radius h lost) (cleared_sums h lost sums) locator
  pub listed : nodes ≡ suspects_of h lost (take (lost_radius h lost + 1) locator)
