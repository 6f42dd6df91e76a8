-- What setting right means, by the words of the code themselves.
use Rattle.std.specs.Prelude.{◌≡◌, true, List, ℕ, ◌-◌, ◌/◌, ◌≤◌, ◌<◌, length}
use Rattle.lists.specs.Counting.{differ}
use Rattle.lists.specs.Numbers.{all_below}
use Rattle.layout.specs.Layout.{lane_of, share_layout}
use Rattle.layout.specs.Width.{symbols_of}
use Rattle.generator.specs.declared.Header.{Header}
use Rattle.generator.specs.Records.{size, width}
use Rattle.generator.specs.Claims.{Codeword}

-- us is a word of the code that differs from ws at no more than the whole part of (n − k)/2 nodes
pub record NearWord (h : Header) (ws us : List ℕ) : Type 0 where
  pub long : length us ≡ h.n
  pub symbols : all_below (size h) us ≡ true
  pub word : Codeword h us
  pub close : differ ws us ≤ (h.n - h.k) / 2

-- lane t of shares as bytes
abbrev pub lane_in : Header → ℕ → List ℕ → ℕ → List ℕ
lane_in h l shares t = lane_of share_layout h.n l t (symbols_of (width h) shares)

-- a block that was set right, and how many symbols were altered
pub record CorrectDone (h : Header) (l : ℕ) (shares shares' : List ℕ) (count : ℕ) : Type 0 where
  -- each lane is the word that near, and the only one
  pub near : (t : ℕ) → t < l → NearWord h (lane_in h l shares t) (lane_in h l shares' t)
  pub only : (t : ℕ) → t < l → (us : List ℕ) → NearWord h (lane_in h l shares t) us → us ≡ lane_in h l shares' t
  -- a lane that was a word stays
  pub stays : (t : ℕ) → t < l → Codeword h (lane_in h l shares t) → lane_in h l shares' t ≡ lane_in h l shares t
  -- the count is of the places where the buffers differ
  pub counts : count ≡ differ (symbols_of (width h) shares) (symbols_of (width h) shares')
