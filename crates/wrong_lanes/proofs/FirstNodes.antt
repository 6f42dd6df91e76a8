-- The first k nodes fix the word: a lane is a word of the code exactly where every other node holds what they give.
use mathlib.Core.Path.{◌≡◌, sym, ap, ◌∙◌}
use mathlib.Core.Logic.{◌↔◌, by_cases}
use mathlib.Core.Bool.{true}
use mathlib.Core.List.{List}
use Prim.Native.Nat.{ℕ, ◌+◌, ◌-◌, ◌≤◌, ◌<◌}
use native.Mathlib.Decide.{dec_lt}
use native.Mathlib.Nat.{zero-add}
use native.Mathlib.Omega.{arith}
use lib.ListN.{length, get_or, take}
use lib.Seq.{ext_get_or, get_or-take, length-take-le}
use Rattle.lists.specs.Numbers.{all_below}
use Rattle.lists.specs.Rows.{from, range}
use Rattle.lists.proofs.Numbers.{below_take}
use Rattle.lists.proofs.Places.{map_range}
use Rattle.lists.proofs.Rows.{length_from, get_or_from}
use Rattle.field.specs.Inner.Sums.{dot}
use Rattle.generator.specs.declared.Header.{Header}
use Rattle.generator.specs.Records.{modulus_of, size, Sound}
use Rattle.generator.specs.Codewords.{node_of, encoding, is_word}
use Rattle.generator.specs.Claims.{is_message, at_nodes}
use Rattle.generator.proofs.PlainLayout.{first_nodes}
use Rattle.generator.proofs.Recovery.{some_message}
use Rattle.generator.proofs.Words.{words_encode, encoding_size}
use Rattle.node_weights.specs.Inner.Weights.{Rebuilds}

module _ (h : Header) (s : Sound h) (w : ℕ → List ℕ) (gives : (i : ℕ) → i < h.n - h.k → Rebuilds h (range 0 h.k) (h.k + i) (w i)) where
  -- each other node holds the sum of the first k nodes' symbols times the weights
  abbrev pub Rebuilt : List ℕ → Type 0
  Rebuilt ws = (i : ℕ) → i < h.n - h.k → get_or ws (h.k + i) 0 ≡ dot (modulus_of h) (take h.k ws) (w i)

  node_at : (ms : List ℕ) (j : ℕ) → j < h.n → get_or (encoding h ms) j 0 ≡ node_of h ms j
  unfolding encoding
  node_at ms j low = rw zero-add at (get_or_from (node_of h ms) 0 h.n j 0 low)

  -- the first k nodes of an encoding
  first_held : (ms : List ℕ) → take h.k (encoding h ms) ≡ at_nodes h ms (range 0 h.k)
  first_held ms =
      let fits : h.k ≤ length (encoding h ms) = omega (arith, encoding_size h s ms, s.fits) in
      let long : length (take h.k (encoding h ms)) ≡ h.k = length-take-le h.k (encoding h ms) fits in
      ext_get_or 0 (take h.k (encoding h ms)) (from (node_of h ms) 0 h.k) (long ∙ sym (length_from (node_of h ms) 0 h.k))
      (λ j inside.
      let low : j < h.k = omega (arith, long) in
      get_or-take h.k (encoding h ms) j 0 low ∙ node_at ms j (omega (arith, s.fits)) ∙ sym (rw zero-add at (get_or_from (node_of h ms) 0 h.k j 0 low)))
      ∙ sym (map_range (node_of h ms) 0 h.k)

  -- every encoding is rebuilt
  encoding_rebuilt : (ms : List ℕ) → is_message h ms ≡ true → Rebuilt (encoding h ms)
  encoding_rebuilt ms m i low =
      node_at ms (h.k + i) (omega arith) ∙ (gives i low).gives ms m ∙ ap (λ (xs : List ℕ). dot (modulus_of h) xs (w i)) (sym (first_held ms))

  -- two such lanes that agree on the first k nodes are the same
  same_lane : (us ws : List ℕ) → length us ≡ h.n → length ws ≡ h.n → take h.k us ≡ take h.k ws → Rebuilt us → Rebuilt ws → us ≡ ws
  same_lane us ws a b first x y =
      ext_get_or 0 us ws (a ∙ sym b)
      (λ j inside.
      by_cases (dec_lt j h.k)
      (λ low. sym (get_or-take h.k us j 0 low) ∙ ap (λ (xs : List ℕ). get_or xs j 0) first ∙ get_or-take h.k ws j 0 low)
      (λ high.
      let other : j - h.k < h.n - h.k = omega (arith, s.fits) in
      let back : h.k + (j - h.k) ≡ j = omega arith in
      let both : get_or us (h.k + (j - h.k)) 0 ≡ get_or ws (h.k + (j - h.k)) 0 = x (j - h.k) other ∙ ap (λ (xs : List ℕ). dot (modulus_of h) xs (w (j - h.k))) first ∙ sym (y (j - h.k) other) in
      rw back at both))

  pub words_rebuilt : (ws : List ℕ) → length ws ≡ h.n → all_below (size h) ws ≡ true → (is_word h ws ≡ true) ↔ Rebuilt ws
  words_rebuilt ws long below = (to, back)
    where
      to : is_word h ws ≡ true → Rebuilt ws
      to t = let (ms, m, at) = (words_encode h s ws long below).0 t in rw at at (encoding_rebuilt ms m)

      back : Rebuilt ws → is_word h ws ≡ true
      back r =
          let (ms, m, at) = some_message h s (range 0 h.k) (take h.k ws) (first_nodes h s) (length-take-le h.k ws (omega (arith, long, s.fits))) (below_take (size h) h.k ws below) in
          (words_encode h s ws long below).1 (ms, m, same_lane (encoding h ms) ws (encoding_size h s ms) long (first_held ms ∙ at) (encoding_rebuilt ms m) r)
