-- `spectrum` meets its contract: the sums over the row of powers, with powers taken out before and after, are the spectrum.
use mathlib.Core.Path.{◌≡◌, sym, ap, ◌∙◌}
use Prim.Native.Nat.{◌*◌, ◌%◌}
use native.Mathlib.Omega.{arith}
use lib.ListN.{length, take}
use lib.Seq.{length-take-le}
use Rattle.lists.specs.Rows.{from}
use Rattle.lists.specs.Padded.{padded}
use Rattle.lists.proofs.Padding.{take_padded}
use Rattle.lists.proofs.Rows.{length_from}
use Rattle.generator.specs.Records.{modulus_of}
use Rattle.sliding_sums.specs.Inner.Windows.{window_sums}
use Rattle.sliding_sums.proofs.Tables.{length_windows}
use Rattle.spectrum.specs.Inner.Spectrum.{triangle, chirp_at, unchirped}
use Rattle.spectrum.proofs.Arrays.{listed_whole}
use Rattle.check_sums.proofs.Prefix.{whole_is}
use Rattle.spectrum.proofs.Lanes.{length_unchirped, chirps_below, unchirped_below, windows_below}
use Rattle.spectrum.proofs.Chirped.{spectrum_is}
use Rattle.spectrum.proofs.Transform.spectrum.Goals as goal
use Rattle.spectrum.proofs.Transform.spectrum.Goals.{After-fill_chirps, After-fill_exponents, After-filled-room, After-filled-sums, After-unchirp-weights, After-window_sums}

-- the weights, lent as a part
weights-are : (c : After-unchirp-weights) → let a = c.args in take a.self.powers.codec.code.header.n c.unchirp-weights.result ≡ unchirped a.self.powers.codec.code.header a.self.lane.now
weights-are c =
    rw c.unchirp-weights.ensures (take_padded 255 _ _ (length_unchirped c.args.self.powers.codec.code.header c.args.self.lane.now ∙ c.args.self.long))

weights-size : (c : After-unchirp-weights) → let a = c.args in length (take a.self.powers.codec.code.header.n c.unchirp-weights.result) ≡ a.self.powers.codec.code.header.n
weights-size c =
    ap length (weights-are c) ∙ length_unchirped c.args.self.powers.codec.code.header c.args.self.lane.now ∙ c.args.self.long

-- the room for the sums, lent as a part
room-size : (c : After-filled-sums) → let a = c.args in length (take a.self.powers.codec.code.header.n c.filled-sums.result) ≡ a.self.powers.codec.code.header.n
room-size c = length-take-le _ _ (rw c.filled-sums.ensures c.args.self.powers.codec.code.sound.byte)

-- the exponents, and the powers of the root
exponents-are : (c : After-fill_exponents) → c.fill_exponents.new.out ≡ from (λ x. triangle x % c.args.self.powers.codec.code.header.n) 0 (length c.fill_exponents.new.out)
exponents-are c = listed_whole _ _ _ c.fill_exponents.ensures

exponents-size : (c : After-fill_exponents) → length c.fill_exponents.new.out ≡ 2 * c.args.self.powers.codec.code.header.n
exponents-size c =
    ap length c.fill_exponents.ensures
    ∙ length_from (λ x. triangle x % c.args.self.powers.codec.code.header.n) 0 _
    ∙ length-take-le _ _ (rw c.filled-places.ensures (omega (arith, c.args.self.powers.codec.code.sound.byte)))

row-size : (c : After-filled-room) → length (take (2 * c.args.self.powers.codec.code.header.n) c.filled-room.result) ≡ 2 * c.args.self.powers.codec.code.header.n
row-size c = length-take-le _ _ (rw c.filled-room.ensures (omega (arith, c.args.self.powers.codec.code.sound.byte)))

row-is : (c : After-fill_chirps) → c.fill_chirps.new.row ≡ from (chirp_at c.args.self.powers.codec.code.header) 0 (2 * c.args.self.powers.codec.code.header.n)
row-is c = c.fill_chirps.ensures ∙ ap (from (chirp_at c.args.self.powers.codec.code.header) 0) (row-size (goal.at.After-fill_chirps c).After-filled-room)

-- the sums
sums-of : (c : After-window_sums)
    → let a = c.args in
    window_sums (modulus_of a.self.powers.codec.code.header) (take a.self.powers.codec.code.header.n c.unchirp-weights.result) c.fill_chirps.new.row (length (take a.self.powers.codec.code.header.n c.filled-sums.result))
    ≡ window_sums (modulus_of a.self.powers.codec.code.header) (unchirped a.self.powers.codec.code.header a.self.lane.now) (from (chirp_at a.self.powers.codec.code.header) 0 (2 * a.self.powers.codec.code.header.n)) a.self.powers.codec.code.header.n
sums-of c = rw (weights-are (goal.at.After-window_sums c).After-unchirp-weights, row-is (goal.at.After-window_sums c).After-fill_chirps, room-size (goal.at.After-window_sums c).After-filled-sums)

pub window_sums-requires : goal.window_sums-requires
window_sums-requires c =
    let few = c.args.self.powers.codec.code.sound.byte in
    let long = weights-size (goal.at.window_sums-requires c).After-unchirp-weights in
    let room = room-size (goal.at.window_sums-requires c).After-filled-sums in
    let row = row-is (goal.at.window_sums-requires c).After-fill_chirps in
    let wide = ap length row ∙ length_from (chirp_at c.args.self.powers.codec.code.header) 0 (2 * c.args.self.powers.codec.code.header.n) in (
      c.args.self.powers.codec.code.sound.usable_field,
      record {
        few = omega arith;
        places = omega arith;
        room = omega arith;
        short = omega arith;
        weights = rw (weights-are (goal.at.window_sums-requires c).After-unchirp-weights) (unchirped_below _ c.args.self.powers.codec.code.sound _ c.args.self.below);
        symbols = rw row (chirps_below _ c.args.self.powers.codec.code.sound _);
      },
    )

pub fill_chirps-requires : goal.fill_chirps-requires
fill_chirps-requires c =
    let at = goal.at.fill_chirps-requires c in
    (exponents-are at.After-fill_exponents, row-size at.After-filled-room ∙ sym (exponents-size at.After-fill_exponents))

pub unchirp-weights-requires : goal.unchirp-weights-requires
unchirp-weights-requires c =
    let at = goal.at.unchirp-weights-requires c in
    (exponents-are at.After-fill_exponents, rw (exponents-size at.After-fill_exponents) (omega (arith, c.args.self.long)), omega (arith, c.args.self.long, c.args.self.powers.codec.code.sound.byte), c.args.self.below)

pub unchirp-requires : goal.unchirp-requires
unchirp-requires c =
    let is = whole_is c.args.self.powers.codec.code.header.n _ c.filled-sums.result _ (c.window_sums.ensures ∙ sums-of (goal.at.unchirp-requires c).After-window_sums) (length_windows _ _ _ _) in
    (exponents-are (goal.at.unchirp-requires c).After-fill_exponents, rw (is, length_windows, exponents-size (goal.at.unchirp-requires c).After-fill_exponents) (omega arith), rw (is, length_windows) c.args.self.powers.codec.code.sound.byte, rw is (windows_below _ c.args.self.powers.codec.code.sound _ _ _ (unchirped_below _ c.args.self.powers.codec.code.sound _ c.args.self.below) (chirps_below _ c.args.self.powers.codec.code.sound _)))

pub returns : goal.returns
returns c =
    let is = whole_is c.args.self.powers.codec.code.header.n _ c.filled-sums.result _ (c.window_sums.ensures ∙ sums-of (goal.at.returns c).After-window_sums) (length_windows _ _ _ _) in
    c.unchirp.ensures ∙ ap (padded 255) (ap (unchirped _) is ∙ spectrum_is _ c.args.self.powers.codec.code.sound _ c.args.self.long c.args.self.below _ (omega arith))
