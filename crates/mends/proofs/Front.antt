-- A buffer with a list at its front: symbols as bytes, and a word's buffers.
use mathlib.Core.Path.{◌≡◌, refl, sym, ap, ◌∙◌}
use mathlib.Core.Bool.{true}
use mathlib.Core.List.{List, ◌++◌, map}
use Prim.Native.Nat.{ℕ, ◌*◌, ◌<◌}
use lib.ListN.{length, drop}
use Rattle.lists.specs.Numbers.{all_below}
use Rattle.lists.proofs.All.{All-imp, All-map}
use Rattle.lists.proofs.Numbers.{below_all, all_below_lem}
use Rattle.layout.specs.Width.{bytes_of}
use Rattle.layout.proofs.Widths.{length_bytes}
use Rattle.generator.specs.declared.Header.{Header}
use Rattle.generator.specs.Records.{size, width, Sound}
use Rattle.generator.specs.Codewords.{is_word}
use Rattle.mends.specs.Mends.{mend_nodes, mend_symbols}
use Rattle.mends.specs.Inner.BySums.{LaneSums, mended_at}
use Rattle.mends.specs.Promise.{in_front}
use Rattle.mends.proofs.BySums.{mended_below}
use Rattle.mends.proofs.Meaning.{none_of}

-- symbols as bytes at the front: the bytes of `count` symbols, and what stood after them
pub front_bytes : (w count v : ℕ) (new ys old : List ℕ) → new ≡ bytes_of v ys → v ≡ w → length ys ≡ count → new ++ drop (count * v) old ≡ in_front (bytes_of w ys) old
unfolding in_front
front_bytes w count v new ys old written same long =
    let bytes : count * v ≡ length (bytes_of w ys) = sym (rw same (length_bytes w ys ∙ ap (λ (c : ℕ). c * w) long)) in
    rw (written, bytes, same)

-- the new symbols of nodes are symbols
pub new_below : (h : Header) → Sound h → (ws sums : List ℕ) → LaneSums h ws sums → (nodes : List ℕ) → all_below h.n nodes ≡ true → all_below (size h) (map (mended_at h ws sums) nodes) ≡ true
new_below h s ws sums has nodes low =
    all_below_lem (size h) (map (mended_at h ws sums) nodes)
    (All-map (λ x. x < size h) (mended_at h ws sums) nodes
    (All-imp (λ j. j < h.n) (λ j. mended_at h ws sums j < size h) (mended_below h s ws sums has) nodes (below_all h.n nodes low)))

-- a word's buffers are left as they were
pub word_lists : (h : Header) (ws : List ℕ) → is_word h ws ≡ true → (nodes symbols : List ℕ) → (0 ≡ length (mend_nodes h ws)) × (nodes ≡ in_front (mend_nodes h ws) nodes) × (symbols ≡ in_front (bytes_of (width h) (mend_symbols h ws)) symbols)
unfolding mend_symbols bytes_of in_front
word_lists h ws word nodes symbols = rw (none_of h ws word) (refl, refl, refl)
