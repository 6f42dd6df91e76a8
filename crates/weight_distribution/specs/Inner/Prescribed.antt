-- Messages by the places of their words that are zero.
use Rattle.std.specs.Prelude.{ℕ, zero, suc, ◌+◌, ◌-◌, ◌^◌}

-- of all messages, those whose word is zero at n − y given places and not zero at w given others, w at most y: by differences,
-- since a place that is not zero is one that may be anything, less one that is zero
unfoldable pub prescribed : ℕ → ℕ → ℕ → ℕ → ℕ → ℕ
prescribed n k q zero y = q ^ (k + y - n)
prescribed n k q (suc w) y = prescribed n k q w y - prescribed n k q w (y - 1)
