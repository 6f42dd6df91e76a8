-- The message nearest to the symbols of listed nodes: the one whose encoding differs from them at no more than the whole part of (s − k)/2 of the s nodes.
use Rattle.std.specs.Prelude.{Bool, List, ℕ, ◌-◌, ◌/◌, leb, length}
use Rattle.lists.specs.Counting.{differ}
use Rattle.lists.specs.AllLists.{any_list, first_list}
use Rattle.generator.specs.declared.Header.{Header}
use Rattle.generator.specs.Records.{size}
use Rattle.generator.specs.Claims.{at_nodes}

-- the number of wrong symbols among those of the listed nodes that are set right
unfoldable pub listed_radius : Header → List ℕ → ℕ
listed_radius h nodes = (length nodes - h.k) / 2

-- what the listed nodes hold for the message ms differs from ys at no more than so many
unfoldable pub is_near_message : Header → List ℕ → List ℕ → List ℕ → Bool
is_near_message h nodes ys ms = leb (differ ys (at_nodes h ms nodes)) (listed_radius h nodes)

-- some k symbols are a message that near
unfoldable pub has_near_message : Header → List ℕ → List ℕ → Bool
has_near_message h nodes ys = any_list (size h) h.k (is_near_message h nodes ys)

-- the message that near, where there is one
unfoldable pub near_message : Header → List ℕ → List ℕ → List ℕ
near_message h nodes ys = first_list (size h) h.k (is_near_message h nodes ys)
