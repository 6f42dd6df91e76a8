-- Each call with shares lane after lane, beside the same call with shares node after node: the promises are the same definitions in two arrangements. With shares rearranged, each share buffer that is written is the old one rearranged, and every other result is the old one.
use Rattle.std.specs.Prelude.{Option, Ok}
use Rattle.generator.specs.Answers.{Answer}
use Rattle.std.specs.Prelude.{◌≡◌, true, List, ℕ, ◌*◌, length}
use Rattle.lists.specs.Numbers.{all_below}
use Rattle.layout.specs.Layout.{row_after_row, lane_after_lane}
use Rattle.generator.specs.declared.Header.{Header}
use Rattle.generator.specs.Records.{header_of, width}
use Rattle.blocks.specs.Bytes.{rearranged_bytes}
use Rattle.belongs.specs.Promise.{BelongsSaysIn, BelongsSays}
use Rattle.recover.specs.Promise.{RecoverSaysIn, RecoverSays, RebuildSaysIn, RebuildSays}
use Rattle.update.specs.Promise.{UpdateSaysIn, UpdateSays}
use Rattle.encode.specs.Promise.{EncodeSaysIn, EncodeSays}
use Rattle.rearrange.specs.Promise.{ToLanesSays, ToNodesSays, ListedToLanesSays, ListedToNodesSays}

-- a buffer of rows and lanes from node after node to lane after lane, and back
abbrev pub to_lanes : Header → ℕ → ℕ → List ℕ → List ℕ
to_lanes = rearranged_bytes row_after_row lane_after_lane

abbrev pub to_nodes : Header → ℕ → ℕ → List ℕ → List ℕ
to_nodes = rearranged_bytes lane_after_lane row_after_row

-- s holds that many rows of l symbols
abbrev pub Full : Header → ℕ → ℕ → List ℕ → Type 0
Full h rows l s = length s ≡ rows * l * width h

pub record LaneAfterLane : Type 0 where
  -- Encode into two buffers of one length, whatever they held
  pub encode : (rec : List ℕ) (l : ℕ) (message out out' new new' : List ℕ) (answer answer' : Answer (Unit {0})) → length new ≡ length out
      → EncodeSaysIn row_after_row rec l message out out' answer → EncodeSays rec l message new new' answer'
      → (answer' ≡ answer) × (answer' ≡ Ok tt → new' ≡ to_lanes (header_of rec) (header_of rec).n l out')
  -- Update: the answer with its count, and the shares
  pub update : (rec : List ℕ) (l r t old new : ℕ) (s s' now : List ℕ) (answer answer' : Answer ℕ) → Full (header_of rec) (header_of rec).n l s
      → UpdateSaysIn row_after_row rec l r t old new s s' answer → UpdateSays rec l r t old new (to_lanes (header_of rec) (header_of rec).n l s) now answer'
      → (answer' ≡ answer) × (now ≡ to_lanes (header_of rec) (header_of rec).n l s')
  -- Recover: the answer and the message
  pub recover : (rec : List ℕ) (l : ℕ) (nodes s out out' now : List ℕ) (answer answer' : Answer (Unit {0})) → Full (header_of rec) (header_of rec).k l s
      → RecoverSaysIn row_after_row rec l nodes s out out' answer → RecoverSays rec l nodes (to_lanes (header_of rec) (header_of rec).k l s) out now answer'
      → (answer' ≡ answer) × (now ≡ out')
  -- Rebuild: the answer and the share
  pub rebuild : (rec : List ℕ) (l : ℕ) (nodes s : List ℕ) (target : ℕ) (out out' now : List ℕ) (answer answer' : Answer (Unit {0})) → Full (header_of rec) (header_of rec).k l s
      → RebuildSaysIn row_after_row rec l nodes s target out out' answer → RebuildSays rec l nodes (to_lanes (header_of rec) (header_of rec).k l s) target out now answer'
      → (answer' ≡ answer) × (now ≡ out')
  -- Belongs: yes, the smallest wrong lane, or the number
  pub belongs : (rec : List ℕ) (l : ℕ) (s : List ℕ) (answer answer' : Answer (Option ℕ)) → Full (header_of rec) (header_of rec).n l s
      → BelongsSaysIn row_after_row rec l s answer → BelongsSays rec l (to_lanes (header_of rec) (header_of rec).n l s) answer'
      → answer' ≡ answer
  -- the two rearrangements of bytes undo each other
  pub back : (h : Header) (rows l : ℕ) (s : List ℕ) → Full h rows l s → all_below 256 s ≡ true → to_nodes h rows l (to_lanes h rows l s) ≡ s
  pub forth : (h : Header) (rows l : ℕ) (s : List ℕ) → Full h rows l s → all_below 256 s ≡ true → to_lanes h rows l (to_nodes h rows l s) ≡ s
  -- so do the two calls for all nodes
  pub calls_back : (rec : List ℕ) (l : ℕ) (s out out' end end' : List ℕ) → all_below 256 s ≡ true → ToLanesSays rec l s out out' (Ok tt) → ToNodesSays rec l out' end end' (Ok tt) → end' ≡ s
  pub calls_forth : (rec : List ℕ) (l : ℕ) (s out out' end end' : List ℕ) → all_below 256 s ≡ true → ToNodesSays rec l s out out' (Ok tt) → ToLanesSays rec l out' end end' (Ok tt) → end' ≡ s
  -- and the two for k listed ones
  pub listed_back : (rec : List ℕ) (l : ℕ) (s out out' end end' : List ℕ) → all_below 256 s ≡ true → ListedToLanesSays rec l s out out' (Ok tt) → ListedToNodesSays rec l out' end end' (Ok tt) → end' ≡ s
  pub listed_forth : (rec : List ℕ) (l : ℕ) (s out out' end end' : List ℕ) → all_below 256 s ≡ true → ListedToNodesSays rec l s out out' (Ok tt) → ListedToLanesSays rec l out' end end' (Ok tt) → end' ≡ s
  -- Recover of listed shares that stood node after node: `listed_to_lanes` first gives the message that Recover of that arrangement would
  pub listed_recover : (rec : List ℕ) (l : ℕ) (nodes s moved moved' out out' now : List ℕ) (answer answer' : Answer (Unit {0})) → ListedToLanesSays rec l s moved moved' (Ok tt)
      → RecoverSaysIn row_after_row rec l nodes s out out' answer → RecoverSays rec l nodes moved' out now answer'
      → (answer' ≡ answer) × (now ≡ out')
