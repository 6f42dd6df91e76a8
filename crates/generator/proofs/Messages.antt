-- The message of a word: it is the one that was encoded, and its encoding is the word.
use mathlib.Core.Path.{◌≡◌, refl, sym, ap, ◌∙◌}
use mathlib.Core.Bool.{Bool, true}
use mathlib.Core.List.{List}
use Prim.Native.Nat.{ℕ, ◌+◌, ◌≤◌, ◌<◌}
use native.Mathlib.Nat.{zero-add}
use native.Mathlib.Omega.{arith}
use borrow.Author.Tests.{eqb-true, eq-eqb}
use lib.Dec.{eqb}
use lib.ListN.{length, get_or}
use Rattle.lists.specs.Rows.{range}
use Rattle.lists.specs.Numbers.{all_below}
use Rattle.lists.specs.Counting.{differ}
use Rattle.lists.proofs.AllLists.{Passes, any_list_lem, first_list_lem}
use Rattle.lists.proofs.Differ.{differ_same, same_lists}
use Rattle.lists.proofs.Places.{map_range}
use Rattle.lists.proofs.Rows.{from_ext, get_or_from}
use Rattle.generator.specs.declared.Header.{Header}
use Rattle.generator.specs.Records.{size, Sound}
use Rattle.generator.specs.Codewords.{node_of, encoding, is_word}
use Rattle.generator.specs.Messages.{message_of}
use Rattle.generator.specs.Claims.{is_message}
use Rattle.generator.proofs.Recovery.{message_size, message_below, message_is, one_message}
use Rattle.generator.proofs.Words.{words_encode, encoding_size}
use Rattle.generator.proofs.PlainLayout.{first_nodes}

-- what node j of an encoding holds
pub node_at : (h : Header) (ms : List ℕ) (j : ℕ) → j < h.n → get_or (encoding h ms) j 0 ≡ node_of h ms j
unfolding encoding
node_at h ms j node = rw zero-add at (get_or_from (node_of h ms) 0 h.n j 0 node)

module _ (h : Header) (s : Sound h) where
  -- the test by which the message is looked for
  abbrev encodes : List ℕ → List ℕ → Bool
  encodes ws ms = eqb (differ ws (encoding h ms)) 0

  -- what is found where some message's encoding is the list
  found : (ws ms : List ℕ) → is_message h ms ≡ true → encoding h ms ≡ ws → Passes (size h) h.k (encodes ws) (message_of h ws)
  unfolding message_of
  found ws ms m at =
      first_list_lem (size h) h.k (encodes ws)
      (any_list_lem (size h) h.k (encodes ws) ms
      (record { long = message_size h ms m; below = message_below h ms m; passes = eq-eqb _ 0 (ap (differ ws) at ∙ differ_same ws) }))

  -- it is a message, and its encoding is the list
  pub found_message : (ws ms : List ℕ) → is_message h ms ≡ true → encoding h ms ≡ ws → (is_message h (message_of h ws) ≡ true) × (encoding h (message_of h ws) ≡ ws)
  found_message ws ms m at =
      let p = found ws ms m at in
      let long : length ws ≡ length (encoding h (message_of h ws)) = sym (ap length at) ∙ encoding_size h s ms ∙ sym (encoding_size h s (message_of h ws)) in
      (message_is h (message_of h ws) p.long p.below, sym (same_lists ws (encoding h (message_of h ws)) long (eqb-true _ 0 p.passes)))

  -- messages with one encoding are equal: they have the same at the first k nodes
  pub encoding_injective : (ms us : List ℕ) → is_message h ms ≡ true → is_message h us ≡ true → encoding h ms ≡ encoding h us → ms ≡ us
  encoding_injective ms us m u e =
      one_message h s (range 0 h.k) ms us (first_nodes h s) m u
      (map_range (node_of h ms) 0 h.k ∙ from_ext (node_of h ms) (node_of h us) 0 h.k same ∙ sym (map_range (node_of h us) 0 h.k))
    where
      same : (j : ℕ) → 0 ≤ j → j < 0 + h.k → node_of h ms j ≡ node_of h us j
      same j low high = let node : j < h.n = omega (arith, s.fits) in sym (node_at h ms j node) ∙ ap (λ (w : List ℕ). get_or w j 0) e ∙ node_at h us j node

  -- a message is that of its encoding
  pub message_back : (ms : List ℕ) → is_message h ms ≡ true → message_of h (encoding h ms) ≡ ms
  message_back ms m =
      let (is, at) = found_message (encoding h ms) ms m refl in
      encoding_injective (message_of h (encoding h ms)) ms is m at

  -- a word is the encoding of its message
  pub word_message : (ws : List ℕ) → length ws ≡ h.n → all_below (size h) ws ≡ true → is_word h ws ≡ true → (is_message h (message_of h ws) ≡ true) × (encoding h (message_of h ws) ≡ ws)
  word_message ws long below word =
      let (ms, m, at) = (words_encode h s ws long below).0 word in
      found_message ws ms m at
