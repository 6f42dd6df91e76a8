-- What all nodes that send write, one after the other.
use Rattle.std.specs.Prelude.{List, ℕ, length, get_or}
use Rattle.lists.specs.Rows.{rows_from}
use Rattle.layout.specs.Width.{bytes_of}
use Rattle.generator.specs.declared.Header.{Header}
use Rattle.generator.specs.Records.{width}
use Rattle.blocks.specs.Blocks.{share_of}
use Rattle.traces.specs.Repairs.{senders}
use Rattle.repair.specs.Sent.{sent}

-- what all nodes that are there send for a message, in the order of the nodes
unfoldable pub sent_all : Header → ℕ → ℕ → List ℕ → List ℕ → List ℕ
sent_all h l target missing m =
    let js = senders h target missing in
    rows_from (λ i. sent h target missing (get_or js i 0) (bytes_of (width h) (share_of h l m (get_or js i 0)))) 0 (length js)
