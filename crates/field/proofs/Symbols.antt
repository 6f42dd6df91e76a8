-- The symbols below q, the carrier of a field of q elements, and lists of them.
use mathlib.Core.Path.{◌≡◌, refl, sym, ap, ap₂, ◌∙◌}
use mathlib.Core.Bool.{true, Bool-set}
use mathlib.Core.HLevel.{Σ_prop_path}
use mathlib.Core.List.{List, [], ◌∷◌, map}
use Prim.Native.Nat.{ℕ, ◌%◌, ◌<◌}
use native.Mathlib.Nat.{mod-lt, mod-eq_of_lt}
use native.Mathlib.Decide.{ℕ_discrete, map_dec}
use borrow.Author.Tests.{lt-ltb, ltb-true}
use lib.Dec.{ltb}
use lib.ListN.{length, get_or, length-map, get_or-map}
use Rattle.lists.specs.Numbers.{all_below}
use Rattle.lists.proofs.Numbers.{below_cons, cons_below}
use Rattle.field.specs.Symbols.{Symbol, numbers}

module _ (q : ℕ) where
  -- a number below q as a symbol
  abbrev pub symbol : (x : ℕ) → x < q → Symbol q
  symbol x h = (x, lt-ltb x q h)

  -- a symbol's number is below q
  pub symbol_below : (a : Symbol q) → a.0 < q
  symbol_below a = ltb-true a.0 q a.1

  -- symbols with equal numbers are equal
  pub symbol_path : {a b : Symbol q} → a.0 ≡ b.0 → a ≡ b
  symbol_path e = Σ_prop_path (λ (x : ℕ). Bool-set (ltb x q) true) e

  pub symbol_decide : (a b : Symbol q) → Dec (a ≡ b)
  symbol_decide a b = map_dec symbol_path (ap (λ (s : Symbol q). s.0)) (ℕ_discrete a.0 b.0)

  pub numbers_below : (s : List (Symbol q)) → all_below q (numbers q s) ≡ true
  unfolding all_below
  numbers_below [] = refl
  numbers_below (a ∷ s) = cons_below q a.0 (numbers q s) (symbol_below a) (numbers_below s)

  pub length_numbers : (s : List (Symbol q)) → length (numbers q s) ≡ length s
  length_numbers s = length-map s (λ a. a.0)

  module _ (pos : 0 < q) where
    -- a number modulo q as a symbol
    abbrev pub residue : ℕ → Symbol q
    residue x = symbol (x % q) (mod-lt x pos)

    -- a list of numbers as symbols
    abbrev pub symbols : List ℕ → List (Symbol q)
    symbols xs = map residue xs

    pub numbers_symbols : (xs : List ℕ) → all_below q xs ≡ true → numbers q (symbols xs) ≡ xs
    numbers_symbols [] h = refl
    numbers_symbols (x ∷ xs) h =
        let both = below_cons q x xs h in
        ap₂ ◌∷◌ (mod-eq_of_lt both.0) (numbers_symbols xs both.1)

    pub symbols_numbers : (s : List (Symbol q)) → symbols (numbers q s) ≡ s
    symbols_numbers [] = refl
    symbols_numbers (a ∷ s) = ap₂ ◌∷◌ (symbol_path (mod-eq_of_lt (symbol_below a))) (symbols_numbers s)

    -- lists of symbols with equal numbers are equal
    pub numbers_path : (s t : List (Symbol q)) → numbers q s ≡ numbers q t → s ≡ t
    numbers_path s t e = sym (symbols_numbers s) ∙ ap symbols e ∙ symbols_numbers t

    pub length_symbols : (xs : List ℕ) → length (symbols xs) ≡ length xs
    length_symbols xs = length-map xs residue

    -- the number at an index
    pub get_or_numbers : (s : List (Symbol q)) (i : ℕ) → get_or (numbers q s) i 0 ≡ (get_or s i (symbol 0 pos)).0
    get_or_numbers s i = get_or-map (λ a. a.0) s i (symbol 0 pos)
