-- What the definitions mean: the word that is near enough is the only one, and the call is turned away exactly if some lane has none.
use mathlib.Core.Path.{◌≡◌, refl, sym, ◌∙◌}
use mathlib.Core.Bool.{Bool, true, false, true≢false}
use mathlib.Core.List.{List}
use Prim.Native.Nat.{ℕ, ◌+◌, ◌*◌, ◌≤◌, ◌<◌}
use native.Mathlib.Omega.{arith}
use borrow.Author.Tests.{leb-true, leb-false, le-leb}
use lib.Dec.{leb}
use lib.ListN.{length}
use Rattle.lists.specs.Counting.{differ}
use Rattle.lists.specs.Numbers.{all_below}
use Rattle.std.proofs.lemmas.Bool.{and_from}
use Rattle.lists.proofs.Search.{search_passes, search_fails, search_high}
use Rattle.layout.specs.Layout.{Arrangement, lane_of}
use Rattle.layout.proofs.Lawful.{Lawful}
use Rattle.generator.specs.declared.Header.{Header}
use Rattle.generator.specs.Records.{size, distance, Sound}
use Rattle.generator.specs.Codewords.{is_word}
use Rattle.generator.specs.Claims.{Codeword}
use Rattle.generator.proofs.Words.{words_poly}
use Rattle.nearest_word.specs.Nearest.{radius, is_near, has_near, nearest, corrected}
use Rattle.nearest_word.proofs.Near.{Near, near_word, near_close, at_most_one, nearest_is, nearest_near, words_apart}
use Rattle.nearest_word.proofs.Corrected.{word_stays, corrected_long, corrected_below, corrected_word, corrected_close, corrected_is}
use Rattle.correct.specs.Blocks.{first_far}
use Rattle.correct.specs.Meaning.{NearWord}

module _ (h : Header) (s : Sound h) where
  -- a word of the code passes the test, and what passes it is one
  pub word_test : (us : List ℕ) → length us ≡ h.n → all_below (size h) us ≡ true → Codeword h us → is_word h us ≡ true
  word_test us l b w = (words_poly h s us l b).1 w

  pub test_word : (us : List ℕ) → length us ≡ h.n → all_below (size h) us ≡ true → is_word h us ≡ true → Codeword h us
  test_word us l b w = (words_poly h s us l b).0 w

  -- two words that differ somewhere differ at d nodes or more
  pub far_apart : (us vs : List ℕ) → length us ≡ h.n → length vs ≡ h.n → all_below (size h) us ≡ true → all_below (size h) vs ≡ true → Codeword h us → Codeword h vs → (us ≡ vs → ⊥) → distance h ≤ differ us vs
  unfolding distance
  far_apart us vs lu lv bu bv wu wv other = go (leb (h.k + differ us vs) h.n) refl
    where
      go : (b : Bool) → leb (h.k + differ us vs) h.n ≡ b → distance h ≤ differ us vs
      go true e = absurd (other (words_apart h s us vs lu lv bu bv (word_test us lu bu wu) (word_test vs lv bv wv) (leb-true (h.k + differ us vs) h.n e)))
      go false e = omega (arith, leb-false (h.k + differ us vs) h.n e, s.fits)

  module _ (ws : List ℕ) (long : length ws ≡ h.n) where
    near_passes : (us : List ℕ) → NearWord h ws us → Near h s ws us
    unfolding is_near radius
    near_passes us n =
        record {
          long = n.long;
          below = n.symbols;
          passes = and_from _ _ (word_test us n.long n.symbols n.word) (le-leb (differ ws us) (radius h) n.close);
        }

    passes_near : (us : List ℕ) → Near h s ws us → NearWord h ws us
    unfolding radius
    passes_near us n =
        record {
          long = n.long;
          symbols = n.below;
          word = test_word us n.long n.below (near_word h s ws long us n);
          close = near_close h s ws long us n;
        }

    -- at most one word is that near
    pub one_near : (us vs : List ℕ) → NearWord h ws us → NearWord h ws vs → us ≡ vs
    one_near us vs n m = at_most_one h s ws long us vs (near_passes us n) (near_passes vs m)

    -- there is one, or none
    pub has_near_lem : has_near h ws ≡ true → NearWord h ws (nearest h ws)
    has_near_lem t = passes_near (nearest h ws) (nearest_near h s ws long t)

    pub none_near : has_near h ws ≡ false → (us : List ℕ) → NearWord h ws us → ⊥
    none_near t us n = true≢false (sym (nearest_is h s ws long us (near_passes us n)).0 ∙ t)

    -- the lane set right is it
    module _ (below : all_below (size h) ws ≡ true) where
      pub corrected_is_near : has_near h ws ≡ true → NearWord h ws (corrected h ws)
      unfolding radius
      corrected_is_near t =
          let l = corrected_long h s ws long below in
          let b = corrected_below h s ws long below in
          record { long = l; symbols = b; word = test_word (corrected h ws) l b (corrected_word h s ws long below t); close = corrected_close h s ws long below }

      pub corrected_only : (us : List ℕ) → NearWord h ws us → us ≡ corrected h ws
      corrected_only us n = sym (corrected_is h s ws long below us (near_passes us n))

      pub corrected_stays : Codeword h ws → corrected h ws ≡ ws
      corrected_stays w = word_stays h s ws long below (word_test ws long below w)

  -- the lanes of a block
  module _ {y : Arrangement} (a : Lawful y) (l : ℕ) (shares : List ℕ) (long : length shares ≡ h.n * l) (below : all_below (size h) shares ≡ true) where
    abbrev lane : ℕ → List ℕ
    lane t = lane_of y h.n l t shares

    -- no lane is too far from every word
    pub all_near : first_far y h l shares ≡ l → (t : ℕ) → t < l → has_near h (lane t) ≡ true
    unfolding first_far
    all_near none t inside = search_passes l 0 (λ t. has_near h (lane t)) t (omega arith) (omega (arith, none))

    -- or one is
    pub one_far : (first_far y h l shares ≡ l → ⊥) → (t : ℕ) × (t < l) × (has_near h (lane t) ≡ false)
    unfolding first_far
    one_far some =
        let t = first_far y h l shares in
        let low : t < 0 + l = omega (arith, some, search_high l 0 (λ t. has_near h (lane t))) in
        (t, omega arith, search_fails l 0 (λ t. has_near h (lane t)) low)

    pub far_not : (t : ℕ) → t < l → has_near h (lane t) ≡ false → first_far y h l shares ≡ l → ⊥
    far_not t inside far none = true≢false (sym (all_near none t inside) ∙ far)
