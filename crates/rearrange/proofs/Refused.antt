-- What the calls say beside a number g.
use Rattle.std.specs.Prelude.{Err}
use mathlib.Core.Path.{◌≡◌, sym}
use mathlib.Core.List.{List}
use Prim.Native.Nat.{ℕ}
use Rattle.layout.specs.Layout.{Arrangement}
use Rattle.generator.specs.declared.Header.{Header}
use Rattle.generator.proofs.Answered.{answer_refused}
use Rattle.blocks.proofs.Refused.{refused_value}
use Rattle.rearrange.specs.Promise.{RearrangePromise}

-- the number, and nothing is written
pub rearrange_refuses : {y z : Arrangement} (h : Header) (g : ℕ) → (g ≡ 0 → ⊥) → (rows l : ℕ) (source out : List ℕ) → RearrangePromise y z rows l source out out (Err g) h g
rearrange_refuses h g some rows l source out = record { answered = sym (answer_refused g _ some); written = sym (refused_value g _ out some) }
