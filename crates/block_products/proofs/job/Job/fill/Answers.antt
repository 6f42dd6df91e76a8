-- `fill` meets its contract: each scratch is long enough.
use Rattle.std.proofs.Common.{ℕ, ◌*◌, ◌≤◌, mul-le-mul, le_refl, arith}
use Rattle.block_products.proofs.Lanes.{room_for, few_room}
use Rattle.block_products.proofs.job.Job.fill.Goals as goal
use Rattle.block_products.proofs.job.Job.fill.Goals.{After-max}

-- the rows of bytes of the sums and of the lanes
within : (c : After-max) → let j = c.args.self in (j.w.bytes * j.m.outputs ≤ j.w.bytes * c.max.result) × (j.w.bytes * j.m.rows ≤ j.w.bytes * c.max.result)
within c =
    let j = c.args.self in
    let m : ℕ = c.max.result in
    let outputs : j.m.outputs ≤ m = omega arith in
    let rows : j.m.rows ≤ m = omega arith in
    (mul-le-mul (le_refl j.w.bytes) outputs, mul-le-mul (le_refl j.w.bytes) rows)

pub fill_in-requires : goal.fill_in-requires
fill_in-requires c =
    let j = c.args.self in
    let i = within (goal.at.fill_in-requires c).After-max in
    record { out_long = c.requires; room = few_room j.w.bytes j.m.outputs j.m.rows 1 j.w.some (omega (arith, i.0)) (omega (arith, i.1)); rows_fit = omega arith; table_fits = omega arith }

pub fill_in-requires-then-most-le64 : goal.fill_in-requires-then-most-le64
fill_in-requires-then-most-le64 c =
    let j = c.args.self in
    let i = within (goal.at.fill_in-requires-then-most-le64 c).After-max in
    record { out_long = c.requires; room = few_room j.w.bytes j.m.outputs j.m.rows 4 j.w.some (omega (arith, i.0)) (omega (arith, i.1)); rows_fit = omega arith; table_fits = omega arith }

pub fill_in-requires-2 : goal.fill_in-requires-2
fill_in-requires-2 c =
    let j = c.args.self in
    let outputs = mul-le-mul j.w.most j.few_outputs in
    let rows = mul-le-mul j.w.most j.few_rows in
    record { out_long = c.requires; room = room_for j.w.bytes j.m.outputs j.m.rows 64 32 j.w.some (omega (arith, j.few_rows)) (omega (arith, outputs)) (omega (arith, rows)) (omega arith); rows_fit = omega arith; table_fits = omega arith }
