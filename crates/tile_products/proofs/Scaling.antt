-- The list of an output over a prime field of bytes: its weights, and after them their ratios.
use Rattle.std.proofs.Common.{◌≡◌, ℕ, ◌+◌, ◌-◌, ◌<◌, ◌≤◌, true, List, ◌++◌, length, get_or, take, drop, refl, sym, ap, ◌∙◌, arith, length-append, append-nil}
use lib.ListN.{get_or-append, drop_of_length-le}
use lib.Seq.{get_or-append-add, take_at, drop_at}
use Rattle.lists.specs.Numbers.{all_below}
use Rattle.lists.proofs.Numbers.{below_at}
use Rattle.tile_products.specs.Inner.Ratios.{ratio_of, Scaled, InScale}

pub scaled_list : {p : ℕ} (ws rest : List ℕ) → length ws ≤ 255 → length ws ≤ length rest → ((i : ℕ) → i < length ws → get_or rest i 0 ≡ ratio_of p (get_or ws i 0)) → Scaled p ws (ws ++ rest)
scaled_list ws rest few room ratios =
    record {
      few = few;
      long = omega (arith, length-append ws rest);
      weights = λ i h. get_or-append ws rest 0 i h;
      ratios = λ i h. get_or-append-add ws rest i 0 ∙ ratios i h;
    }

-- weights in front of what stands there, and after them something as long
pub after_weights : (ws rest out : List ℕ) → length out ≡ length rest → take (length ws) (ws ++ rest) ++ (out ++ drop (length (ws ++ rest) - length ws) (drop (length ws) (ws ++ rest))) ≡ ws ++ out
after_weights ws rest out size =
    let all : length rest ≤ length (ws ++ rest) - length ws = omega (arith, length-append ws rest) in
    rw (take_at ws rest (length ws) refl, drop_at ws rest (length ws) refl, drop_of_length-le rest all, append-nil out) refl

-- what `output` requires of it
pub scaled_alone : (p rows : ℕ) (ws list : List ℕ) → length ws ≡ rows → all_below p ws ≡ true → Scaled p ws list → InScale p rows list
scaled_alone p rows ws list size below s =
    rw (← size)
    record {
      few = s.few;
      long = s.long;
      below = λ i h. rw (s.weights i h) (below_at p ws below i h);
      ratios = λ i h. s.ratios i h ∙ ap (ratio_of p) (sym (s.weights i h));
    }
