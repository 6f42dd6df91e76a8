-- The first l places of an array after a call has filled them.
use mathlib.Core.Path.{◌≡◌, ap, ◌∙◌}
use mathlib.Core.List.{List, ◌++◌}
use Prim.Native.Nat.{ℕ}
use lib.ListN.{length, take, drop}
use lib.Seq.{take_at}

-- with a list of l elements
module _ (l : ℕ) (new old whole : List ℕ) (filled : new ≡ whole) (long : length whole ≡ l) where
  pub whole_is : take l (new ++ drop l old) ≡ whole
  whole_is = take_at new (drop l old) l (ap length filled ∙ long) ∙ filled
