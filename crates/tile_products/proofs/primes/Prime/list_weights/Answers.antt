-- `list_weights` meets its contract: the weights are copied, and where they are bytes their ratios stand after them.
use Rattle.std.proofs.Common.{◌≡◌, ℕ, ◌-◌, ◌*◌, ◌≤◌, List, ◌++◌, length, drop, refl, sym, ◌∙◌, arith, length-take, length-take-le, length-drop, length-append}
use lib.Seq.{drop_at}
use Rattle.field.proofs.Primes.{two≤prime}
use Rattle.tile_products.specs.Inner.Products.{groups_of}
use Rattle.tile_products.proofs.Arms.{groups_room, lists_one, lists_two, plain_list}
use Rattle.tile_products.proofs.Scaling.{scaled_list, after_weights}
use Rattle.tile_products.proofs.primes.Prime.list_weights.Goals as goal
use Rattle.tile_products.proofs.primes.Prime.list_weights.Goals.{Start}

-- the weights lie in the list, and as many places after them
room : (c : Start) → 2 * length c.args.weights.now ≤ length c.args.list.now
room c = omega (arith, c.requires.long, groups_room (length c.args.weights.now))

fits : (c : Start) → length c.args.weights.now ≤ length c.args.list.now
fits c = omega (arith, room c)

pub slice_bounds-copy_from_slice-end : goal.slice_bounds-copy_from_slice-end
slice_bounds-copy_from_slice-end c = fits (goal.at.slice_bounds-copy_from_slice-end c).Start

pub slice_bounds-copy_from_slice-end-2 : goal.slice_bounds-copy_from_slice-end-2
slice_bounds-copy_from_slice-end-2 c = sym (length-take-le _ _ (fits (goal.at.slice_bounds-copy_from_slice-end-2 c).Start))

pub copy_from_slice-requires : goal.copy_from_slice-requires
copy_from_slice-requires c = length-take-le _ _ (fits (goal.at.copy_from_slice-requires c).Start)

pub new-requires : goal.new-requires
new-requires c = let m = c.args.self in record { some = two≤prime m.p m.prime; fits = c.if-has_bytes.ensures }

pub scale-requires-clause-room : goal.scale-requires-clause-room
scale-requires-clause-room c =
    let front = c.copy_from_slice.ensures.after in
    rw (front, drop_at c.args.weights.now _ _ refl) (simp (length-take, length-append, length-drop) (omega (arith, room (goal.at.scale-requires-clause-room c).Start)))

pub returns-then-has_bytes : goal.returns-then-has_bytes
returns-then-has_bytes c =
    λ counts counted.
    let m = c.args.self in
    let ws = c.args.weights.now in
    let rest = drop (length ws) c.args.list.now in
    let out = c.scale.new.out in
    let front = c.copy_from_slice.ensures.after in
    let size : length out ≡ length rest = c.scale.auto.out ∙ rw (front, drop_at ws rest (length ws) refl) (simp (length-take, length-append) (omega arith)) in
    let two = room (goal.at.returns-then-has_bytes c).Start in
    let left : length rest ≡ length c.args.list.now - length ws = length-drop (length ws) c.args.list.now in
    let long : length (ws ++ out) ≡ 8 * groups_of (length ws) = omega (arith, length-append ws out, size, left, two, c.requires.long) in
    rw (front, after_weights ws rest out size)
    (lists_one m.p m.prime c.requires.few c.requires.below long counted c.if-has_bytes.ensures (scaled_list ws out c.requires.few (omega (arith, size, left, two)) (rw c.new.ensures at c.scale.ensures)))

pub returns-else-has_bytes : goal.returns-else-has_bytes
returns-else-has_bytes c =
    λ counts counted.
    let m = c.args.self in
    let ws = c.args.weights.now in
    let rest = drop (length ws) c.args.list.now in
    let within = fits (goal.at.returns-else-has_bytes c).Start in
    let left : length rest ≡ length c.args.list.now - length ws = length-drop (length ws) c.args.list.now in
    let long : length (ws ++ rest) ≡ 8 * groups_of (length ws) = omega (arith, length-append ws rest, left, within, c.requires.long) in
    rw c.copy_from_slice.ensures.after (lists_two m.p m.prime c.requires.few c.requires.below long counted c.if-has_bytes.ensures (plain_list rest refl))
