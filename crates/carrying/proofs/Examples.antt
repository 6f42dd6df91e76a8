-- Worked examples: words that are symbols, one that is none, an odd number of bytes, and their bytes back.
use mathlib.Core.Path.{◌≡◌, refl}
use mathlib.Core.List.{[], ◌∷◌}
use Rattle.lists.specs.Padded.{zeros, padded}
use Rattle.lists.specs.Rows.{from}
use Rattle.layout.specs.Width.{value_from, symbol_at, symbols_of, symbol_bytes, bytes_of}
use Rattle.carrying.specs.Groups.{groups_from, by_groups, group_count}
use Rattle.carrying.specs.Masks.{masked, covered, ruled_out, all_ruled_out, mask_from, mask_of, closed, opened}
use Rattle.carrying.specs.Carrying.{group_words, word_count, words_of, carried_symbols, words_back, carried_words, word_bytes_back, words_length, carried_bytes, bytes_back, carried_length}

-- over 65,521 the word 255 255 is no symbol; under the mask 64 0 it is one, and so are the mask and the other word
all_ones : carried_bytes 65521 (255 ∷ 255 ∷ 0 ∷ 7 ∷ []) ≡ 64 ∷ 0 ∷ 191 ∷ 255 ∷ 64 ∷ 7 ∷ []
unfolding carried_bytes carried_words carried_symbols by_groups groups_from closed covered mask_of mask_from all_ruled_out ruled_out masked words_of word_count padded zeros symbols_of symbol_at value_from from symbol_bytes bytes_of group_words
all_ones = refl

-- small words need no mask; an odd byte has a zero behind it
odd : carried_bytes 65521 (1 ∷ 2 ∷ 3 ∷ []) ≡ 0 ∷ 0 ∷ 1 ∷ 2 ∷ 3 ∷ 0 ∷ []
unfolding carried_bytes carried_words carried_symbols by_groups groups_from closed covered mask_of mask_from all_ruled_out ruled_out masked words_of word_count padded zeros symbols_of symbol_at value_from from symbol_bytes bytes_of group_words
odd = refl

-- read again, four bytes and three
back : (bytes_back 65521 4 (64 ∷ 0 ∷ 191 ∷ 255 ∷ 64 ∷ 7 ∷ []) ≡ 255 ∷ 255 ∷ 0 ∷ 7 ∷ []) × (bytes_back 65521 3 (0 ∷ 0 ∷ 1 ∷ 2 ∷ 3 ∷ 0 ∷ []) ≡ 1 ∷ 2 ∷ 3 ∷ [])
unfolding bytes_back word_bytes_back words_back by_groups groups_from opened masked symbols_of symbol_at value_from from symbol_bytes bytes_of group_words
back = (refl, refl)

-- one symbol more for 255 words, and for 6 where p is 57,179; none over the field of 256 elements
lengths : (carried_length 65521 510 ≡ 512) × (carried_length 65521 511 ≡ 516) × (carried_length 57179 12 ≡ 14) × (carried_length 0 511 ≡ 511)
unfolding carried_length words_length word_count group_count group_words
lengths = (refl, refl, refl, refl)
