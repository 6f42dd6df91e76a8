-- The smallest wrong lane: there is none just where every lane is a word of the code, else it is no word and every smaller lane is one.
use mathlib.Core.Path.{◌≡◌, sym, ◌∙◌}
use mathlib.Core.Logic.{◌↔◌}
use mathlib.Core.Bool.{Bool, true, false, true≢false}
use mathlib.Core.List.{List}
use Prim.Native.Nat.{ℕ, ◌*◌, ◌≤◌, ◌<◌}
use native.Mathlib.Nat.{zero-add}
use native.Mathlib.Omega.{arith}
use lib.ListN.{length}
use Rattle.lists.specs.Numbers.{all_below}
use Rattle.lists.proofs.Search.{search_high, search_none, search_passes, search_fails}
use Rattle.layout.specs.Layout.{Arrangement, lane_of}
use Rattle.layout.proofs.Lawful.{Lawful}
use Rattle.layout.proofs.Buffers.{length_lane, lane_symbols}
use Rattle.generator.specs.declared.Header.{Header}
use Rattle.generator.specs.Records.{size, Sound}
use Rattle.generator.specs.Codewords.{is_word}
use Rattle.generator.specs.Claims.{Codeword}
use Rattle.generator.proofs.Words.{words_poly}
use Rattle.blocks.specs.Blocks.{first_wrong}

module _ (y : Arrangement) (h : Header) (l : ℕ) (s : List ℕ) where
  -- whether a lane is a word
  abbrev word : ℕ → Bool
  word t = is_word h (lane_of y h.n l t s)

  pub wrong_most : first_wrong y h l s ≤ l
  unfolding first_wrong
  wrong_most = omega (arith, search_high l 0 word)

  -- no lane is named exactly if every lane is a word
  pub passes_words : (first_wrong y h l s ≡ l) ↔ ((t : ℕ) → t < l → is_word h (lane_of y h.n l t s) ≡ true)
  unfolding first_wrong
  passes_words = (
    λ e t inside. search_passes l 0 word t (omega arith) (omega arith),
    λ all. search_none l 0 word (λ t low high. all t (omega arith)) ∙ zero-add l,
  )

  -- the lane that is named is no word, and every smaller one is
  pub names_smallest : first_wrong y h l s < l → (is_word h (lane_of y h.n l (first_wrong y h l s) s) ≡ false) × ((t : ℕ) → t < first_wrong y h l s → is_word h (lane_of y h.n l t s) ≡ true)
  unfolding first_wrong
  names_smallest inside = (search_fails l 0 word (omega arith), λ t low. search_passes l 0 word t (omega arith) low)

  module _ (a : Lawful y) (sound : Sound h) (long : length s ≡ h.n * l) (symbols : all_below (size h) s ≡ true) where
    -- the test of a lane says whether it has the values of a polynomial of degree below k
    words : (t : ℕ) → t < l → (is_word h (lane_of y h.n l t s) ≡ true) ↔ Codeword h (lane_of y h.n l t s)
    words t inside = words_poly h sound (lane_of y h.n l t s) (length_lane y h.n l t s) (lane_symbols a h.n l (size h) t s inside long symbols)

    -- no lane is named exactly if every lane is a word of the code
    pub passes_code : (first_wrong y h l s ≡ l) ↔ ((t : ℕ) → t < l → Codeword h (lane_of y h.n l t s))
    passes_code = (
      λ e t inside. (words t inside).0 (passes_words.0 e t inside),
      λ all. passes_words.1 (λ t inside. (words t inside).1 (all t inside)),
    )

    -- the lane that is named is none, and every smaller one is
    pub names_code : first_wrong y h l s < l → (Codeword h (lane_of y h.n l (first_wrong y h l s) s) → ⊥) × ((t : ℕ) → t < first_wrong y h l s → Codeword h (lane_of y h.n l t s))
    names_code inside =
        let (wrong, smaller) = names_smallest inside in
        (λ word. true≢false (sym ((words (first_wrong y h l s) inside).1 word) ∙ wrong), λ t low. (words t (omega arith)).0 (smaller t low))
