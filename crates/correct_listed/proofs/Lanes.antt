-- One lane of listed symbols: a lane that agrees with the message of its first k symbols has it for its nearest, and the symbols set right agree with the nearest.
use Rattle.std.specs.Prelude.{Option, Some, None, MatchOption, is_some}
use mathlib.Core.Path.{◌≡◌, sym, ap, ap₂, ◌∙◌}
use mathlib.Core.Bool.{Bool, true, false, not}
use mathlib.Core.List.{List}
use Prim.Native.Nat.{ℕ, ◌+◌, ◌-◌, ◌*◌, ◌^◌, ◌≤◌, ◌<◌}
use native.Mathlib.Nat.{mul-le-mul, mul_comm, le_refl}
use native.Mathlib.Omega.{arith}
use borrow.Author.Tests.{eq-eqb, le-leb}
use lib.Dec.{eqb}
use lib.ListN.{length, get_or, take, drop}
use Rattle.lists.specs.Counting.{differ}
use Rattle.lists.specs.Numbers.{all_below}
use Rattle.lists.specs.Padded.{padded}
use Rattle.std.proofs.lemmas.List.{get_or-map}
use Rattle.lists.proofs.All.{map_take}
use Rattle.lists.proofs.Differ.{differ_same}
use Rattle.lists.proofs.Padding.{length_padded, take_padded}
use Rattle.lists.proofs.Rows.{part_length}
use Rattle.layout.specs.Layout.{lane_after_lane}
use Rattle.layout.specs.Width.{symbols_of}
use Rattle.layout.proofs.Buffers.{get_or_lane}
use Rattle.layout.proofs.LaneParts.{lane_inside, lane_part}
use Rattle.generator.specs.declared.Header.{Header}
use Rattle.generator.specs.Records.{width, Sound}
use Rattle.generator.specs.Codewords.{node_of}
use Rattle.generator.specs.Claims.{at_nodes}
use Rattle.generator.proofs.Recovery.{message_size, message_below}
use Rattle.generator.proofs.Widths.{width_some, width_range}
use Rattle.symbols.proofs.Fits.{symbols_fit}
use Rattle.blocks.proofs.Recovered.{lane_recovered}
use Rattle.near_message.specs.Nearest.{listed_radius, is_near_message, has_near_message, near_message}
use Rattle.near_message.specs.Inner.Listed.{ListedSymbols}
use Rattle.near_message.proofs.Messages.{near_message_is, near_message_near}
use Rattle.listed_products.specs.Inner.Shares.{ListedNodes, ListedBytes, Agrees, first_message}
use Rattle.listed_products.proofs.First.{nodes_byte, first_is, first_are}
use Rattle.listed_products.proofs.Products.{lane_long, lane_below}
use Rattle.correct_listed.specs.Blocks.{near_message_at, wrong_at}
use Rattle.correct_listed.specs.Inner.Lanes.{lane_listed}

-- a list as it is lent from an array
module _ (xs : List ℕ) {a : List ℕ} {r : ℕ} (is : a ≡ padded 255 xs) (long : length xs ≡ r) (few : r ≤ 255) where
  pub lent_long : r ≤ length a
  lent_long = rw is (omega (arith, length_padded 255 xs (omega (arith, long, few)), few))

  pub lent_is : take r a ≡ xs
  lent_is = rw is (take_padded 255 r xs long)

  pub lent_size : r ≡ length (take r a)
  lent_size = rw lent_is (sym long)

-- whether something was found
pub found_near : {A : Type 0} (P : A → Type 0) (has : Bool) (found : Option A) → MatchOption found (has ≡ false) (λ x. (has ≡ true) × P x) → is_some found ≡ has
found_near P has None far = sym far
found_near P has (Some x) is = sym is.0

module _ {h : Header} (s : Sound h) {nodes : List ℕ} (m : ListedNodes h nodes) where
  -- symbols of the listed nodes
  module _ {ys : List ℕ} (is : ListedSymbols h nodes ys) where
    -- where all agree
    pub agrees_near : Agrees h nodes ys → (has_near_message h nodes ys ≡ true) × (near_message h nodes ys ≡ first_message h nodes ys)
    unfolding is_near_message
    agrees_near same =
        let ms = first_message h nodes ys in
        let none : differ ys (at_nodes h ms nodes) ≡ 0 = ap (differ ys) (sym same) ∙ differ_same ys in
        near_message_is h s nodes ys is ms (first_is s m ys is.long is.symbols).0 (rw none (le-leb 0 (listed_radius h nodes) (omega arith)))

    -- the message of the symbols set right
    pub right_message : has_near_message h nodes ys ≡ true → first_message h nodes (at_nodes h (near_message h nodes ys) nodes) ≡ near_message h nodes ys
    unfolding first_message
    right_message has =
        let ms = near_message h nodes ys in
        lane_recovered h s (take h.k nodes) (first_are s m) (take h.k (at_nodes h ms nodes)) ms (near_message_near h s nodes ys is has).0
        (map_take (node_of h ms) h.k nodes)

    -- the nearest message is k symbols
    pub near_long : has_near_message h nodes ys ≡ true → length (near_message h nodes ys) ≡ h.k
    near_long has = message_size h (near_message h nodes ys) (near_message_near h s nodes ys is has).0

    pub near_fits : has_near_message h nodes ys ≡ true → all_below (256 ^ width h) (near_message h nodes ys) ≡ true
    near_fits has = symbols_fit h s (near_message h nodes ys) (message_below h (near_message h nodes ys) (near_message_near h s nodes ys is has).0)

  -- the lanes of listed shares
  module _ {l : ℕ} {shares : List ℕ} (b : ListedBytes h l nodes shares) where
    abbrev r : ℕ
    r = length nodes

    abbrev pub lane : ℕ → List ℕ
    lane t = lane_listed h nodes l shares t

    -- a lane fits an array of 255 symbols
    pub size_short : width h * r ≤ 255 * width h
    size_short = rw (mul_comm (width h) r) (mul-le-mul (nodes_byte s m) (le_refl (width h)))

    module _ (t : ℕ) (inside : t < l) where
      pub is_listed : ListedSymbols h nodes (lane t)
      is_listed = record { low = m.low; different = m.different; enough = m.enough; long = lane_long s m b t; symbols = lane_below s m b t inside }

      abbrev a : ℕ
      a = t * (width h * r)

      -- its bytes lie within the shares
      pub part_inside : a + width h * r ≤ length shares
      part_inside = lane_inside (width h) r l t shares b.bytes inside

      abbrev part : List ℕ
      part = take (a + width h * r - a) (drop a shares)

      pub part_long : length part ≡ width h * r
      part_long = part_length a (width h * r) shares part_inside

      -- and are its symbols
      pub part_lane : symbols_of (width h) part ≡ lane t
      part_lane = lane_part (width h) r l t shares b.bytes inside (width_some h)

      -- the places that are wrong are those at which the symbols are not those of the nearest message
      pub wrong_is : (i : ℕ) → i < r → not (eqb (get_or (lane t) i 0) (get_or (at_nodes h (near_message h nodes (lane t)) nodes) i 0)) ≡ wrong_at lane_after_lane h nodes l (symbols_of (width h) shares) i t
      unfolding wrong_at near_message_at
      wrong_is i low = ap₂ (λ (x z : ℕ). not (eqb x z)) (get_or_lane lane_after_lane r l t (symbols_of (width h) shares) i low) (get_or-map (node_of h (near_message h nodes (lane t))) nodes i 0 0 low)

      -- none is where the lane agrees
      pub none_wrong : Agrees h nodes (lane t) → (i : ℕ) → i < r → wrong_at lane_after_lane h nodes l (symbols_of (width h) shares) i t ≡ false
      none_wrong same i low =
          let right : lane t ≡ at_nodes h (near_message h nodes (lane t)) nodes = same ∙ ap (λ (ms : List ℕ). at_nodes h ms nodes) (sym (agrees_near is_listed same).1) in
          sym (wrong_is i low) ∙ ap not (eq-eqb (get_or (lane t) i 0) _ (ap (λ (x : List ℕ). get_or x i 0) right))
