-- Symbols written as a row of high bytes and a row of low bytes, lane after lane.
use mathlib.Core.Path.{◌≡◌, sym, ap, ap₂, ◌∙◌}
use mathlib.Core.List.{List, [], ◌∷◌, ◌++◌}
use mathlib.Core.Logic.{by_cases}
use Prim.Native.Nat.{ℕ, suc, ◌+◌, ◌*◌, ◌/◌, ◌%◌, ◌≤◌, ◌<◌}
use native.Mathlib.Decide.{ℕ_discrete}
use native.Mathlib.Nat.{zero-add, add-zero}
use native.Mathlib.Omega.{arith}
use lib.ListN.{length, get_or, set, take, drop, length-set, length-drop, take-append-drop}
use lib.Seq.{get_or-set_same, get_or-set_other, get_or-take, get_or-drop, length-take-le}
use Rattle.lists.specs.Rows.{from}
use Rattle.lists.proofs.Parts.{from_at}
use Rattle.lists.proofs.Rows.{get_or_from}
use Rattle.layout.specs.Inner.Tiles.{tile_bytes}
use Rattle.layout.proofs.Tiles.{tile_pair}
use Rattle.row_sums.specs.Inner.WideSums.{pairs_put}

module _ (l : ℕ) (f : ℕ → ℕ) where
  -- the lanes below t hold the symbols that f names
  pub record Written (t : ℕ) (acc : List ℕ) : Type 0 where
    pub long : length acc ≡ 2 * l
    pub high : (x : ℕ) → x < t → get_or acc x 0 ≡ f x / 256
    pub low : (x : ℕ) → x < t → get_or acc (l + x) 0 ≡ f x % 256

  pub written_less : (t u : ℕ) (acc : List ℕ) → u ≤ t → Written t acc → Written u acc
  written_less t u acc few h = record { long = h.long; high = λ x low. h.high x (omega arith); low = λ x low. h.low x (omega arith) }

  -- one lane more
  module _ (t x : ℕ) (acc : List ℕ) (lane : t < l) (is : x ≡ f t) (h : Written t acc) where
    abbrev first : List ℕ
    first = set acc t (x / 256)

    first_long : length first ≡ 2 * l
    first_long = simp length-set h.long

    written_lane : Written (t + 1) (set first (l + t) (x % 256))
    written_lane =
        record {
          long = simp length-set h.long;
          high = λ y inside.
              get_or-set_other first (l + t) y (x % 256) 0 (λ e. omega arith)
              ∙ by_cases (ℕ_discrete y t)
              (λ e. rw e (get_or-set_same acc t (x / 256) 0 (omega (arith, h.long)) ∙ ap (λ (n : ℕ). n / 256) is))
              (λ n. get_or-set_other acc t y (x / 256) 0 n ∙ h.high y (omega arith));
          low = λ y inside.
              by_cases (ℕ_discrete y t)
              (λ e. rw e (get_or-set_same first (l + t) (x % 256) 0 (omega (arith, first_long)) ∙ ap (λ (n : ℕ). n % 256) is))
              (λ n.
              get_or-set_other first (l + t) (l + y) (x % 256) 0 (λ e. n (omega arith))
              ∙ get_or-set_other acc t (l + y) (x / 256) 0 (λ e. omega arith)
              ∙ h.low y (omega arith));
        }

  pub written_one : (t x : ℕ) (acc : List ℕ) → t < l → x ≡ f t → Written t acc → Written (t + 1) (pairs_put l t (x ∷ []) acc)
  unfolding pairs_put
  written_one = written_lane

  pub written_pairs : (xs : List ℕ) (t : ℕ) (acc : List ℕ) → t + length xs ≤ l → ((i : ℕ) → i < length xs → get_or xs i 0 ≡ f (t + i)) → Written t acc → Written (t + length xs) (pairs_put l t xs acc)
  unfolding pairs_put
  written_pairs [] t acc fits is h = rw (add-zero t) h
  written_pairs (x ∷ xs) t acc fits is h =
      let e : t + 1 + length xs ≡ t + suc (length xs) = omega arith in
      let none : t + 0 ≡ t = omega arith in
      rw (← e)
      (written_pairs xs (t + 1) _ (omega arith) (λ i low. is (suc i) (omega arith) ∙ ap f (omega arith)) (written_lane t x acc (omega arith) (is 0 (omega arith) ∙ ap f none) h))

  pub written_all : (t : ℕ) (acc : List ℕ) → l ≤ t → Written t acc → acc ≡ tile_bytes 2 1 l (from f 0 l)
  written_all t acc end h =
      sym (take-append-drop l acc)
      ∙ ap₂ ◌++◌
      (from_at (λ x. get_or (from f 0 l) x 0 / 256) (take l acc) l (length-take-le l acc (omega (arith, h.long))) (λ x low. get_or-take l acc x 0 low ∙ h.high x (omega arith) ∙ sym (ap (λ (n : ℕ). n / 256) (symbol x low))))
      (from_at (λ x. get_or (from f 0 l) x 0 % 256) (drop l acc) l (simp length-drop (omega (arith, h.long))) (λ x low. get_or-drop l acc x 0 ∙ h.low x (omega arith) ∙ sym (ap (λ (n : ℕ). n % 256) (symbol x low))))
      ∙ sym (tile_pair l (from f 0 l))
    where
      symbol : (x : ℕ) → x < l → get_or (from f 0 l) x 0 ≡ f x
      symbol x low = rw zero-add at (get_or_from f 0 l x 0 low)
