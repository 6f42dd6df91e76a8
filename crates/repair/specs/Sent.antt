-- What the nodes send to a target, and what the target makes of it, in every lane. A symbol has one byte.
use Rattle.std.specs.Prelude.{List, ℕ, ◌+◌, ◌*◌, length, get_or, drop}
use Rattle.lists.specs.Rows.{from}
use Rattle.generator.specs.declared.Header.{Header}
use Rattle.traces.specs.Repairs.{bits, sent_digit, repaired}
use Rattle.repair.specs.Packing.{plane_size, byte_from, bit_at, planes}

-- what node j sends of its share to the target
unfoldable pub sent : Header → ℕ → List ℕ → ℕ → List ℕ → List ℕ
sent h target missing j share = planes (bits h (length missing)) (length share) (λ t. sent_digit h target missing j (get_or share t 0))

-- the target's share from what the nodes that are there sent, in their order: b planes for each
unfoldable pub repaired_share : Header → ℕ → ℕ → List ℕ → List ℕ → List ℕ
repaired_share h l target missing rows =
    let b = bits h (length missing) in
    from (λ t. repaired h target missing (λ i. byte_from b (λ e. bit_at (drop ((i * b + e) * plane_size l) rows) t) 0)) 0 l
