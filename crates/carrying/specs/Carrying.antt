-- Bytes carried in symbols of a field, and read again. A field is its prime p, or 0 for the field of 256 elements, whose symbols are bytes.
use Rattle.std.specs.Prelude.{Bool, not, ◌&&◌, List, ℕ, ◌+◌, ◌-◌, ◌*◌, ◌/◌, ◌%◌, min, eqb, ltb, length, take}
use Rattle.lists.specs.Choice.{pick}
use Rattle.lists.specs.Padded.{padded}
use Rattle.layout.specs.Width.{symbols_of, bytes_of}
use Rattle.carrying.specs.Groups.{by_groups, group_count}
use Rattle.carrying.specs.Masks.{closed, opened}

-- the field carries no bytes: it is a prime field with fewer than 34,816 symbols
unfoldable pub carries_none : ℕ → Bool
carries_none p = not (eqb p 0) && ltb p 34816

-- the words of a group: the mask and each word rule out 65,536 - p masks, and one in sixteen at least is to be left
unfoldable pub group_words : ℕ → ℕ
group_words p = min 256 (61440 / (65536 - p)) - 1

-- bytes as words, the last of an odd number with a zero behind it
unfoldable pub word_count : ℕ → ℕ
word_count count = count / 2 + count % 2

unfoldable pub words_of : List ℕ → List ℕ
words_of bytes = symbols_of 2 (padded (word_count (length bytes) * 2) bytes)

-- words as symbols, group by group, and read again
unfoldable pub carried_symbols : ℕ → List ℕ → List ℕ
carried_symbols p words = by_groups (closed p) (group_words p) words

unfoldable pub words_back : ℕ → List ℕ → List ℕ
words_back p xs = by_groups opened (group_words p + 1) xs

-- bytes in symbols of two bytes, and `count` bytes back
unfoldable pub carried_words : ℕ → List ℕ → List ℕ
carried_words p bytes = bytes_of 2 (carried_symbols p (words_of bytes))

unfoldable pub word_bytes_back : ℕ → ℕ → List ℕ → List ℕ
word_bytes_back p count s = take count (bytes_of 2 (words_back p (symbols_of 2 s)))

-- the bytes of the symbols that carry `count` bytes there: a symbol for each word, and one for each group
unfoldable pub words_length : ℕ → ℕ → ℕ
words_length p count = (word_count count + group_count (group_words p) (word_count count)) * 2

-- over either kind of field: bytes that carry the given ones, `count` bytes that s carries, and how many bytes carry `count`
unfoldable pub carried_bytes : ℕ → List ℕ → List ℕ
carried_bytes p bytes = pick (eqb p 0) bytes (carried_words p bytes)

unfoldable pub bytes_back : ℕ → ℕ → List ℕ → List ℕ
bytes_back p count s = pick (eqb p 0) s (word_bytes_back p count s)

unfoldable pub carried_length : ℕ → ℕ → ℕ
carried_length p count = pick (eqb p 0) count (words_length p count)
