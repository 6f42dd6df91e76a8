-- Words of 16 binary digits under a mask, and a mask under which all words of a group are symbols, numbers below p.
use Rattle.std.specs.Prelude.{List, [], ◌∷◌, map, ℕ, zero, suc, ◌+◌, ◌-◌, ◌*◌, ◌/◌, ◌^◌, min, leb}
use Rattle.std.specs.Int.Bits.{bit_xor}
use Rattle.lists.specs.Choice.{pick}

-- words under a mask; masking twice gives them back
unfoldable pub masked : ℕ → List ℕ → List ℕ
masked mask words = map (λ word. bit_xor word mask) words

-- the mask and the words under it
unfoldable pub covered : ℕ → List ℕ → List ℕ
covered mask words = mask ∷ masked mask words

-- of the 2^more masks that begin with the digits of a, those under which a word is no symbol: it takes the values of one stretch of 2^more numbers there, and they are symbols up to p
unfoldable pub ruled_out : ℕ → ℕ → ℕ → ℕ → ℕ
ruled_out p more a word = min (2 ^ more) ((bit_xor (word / 2 ^ more) a + 1) * 2 ^ more - p)

-- the same of several words, added
unfoldable pub all_ruled_out : ℕ → ℕ → ℕ → List ℕ → ℕ
all_ruled_out p more a [] = 0
all_ruled_out p more a (word ∷ words) = ruled_out p more a word + all_ruled_out p more a words

-- a mask that begins with the digits of a and has `more` besides: at each digit the half of the masks of which no more are ruled out than of the other
unfoldable pub mask_from : ℕ → ℕ → ℕ → List ℕ → ℕ
mask_from p zero a words = a
mask_from p (suc more) a words = mask_from p more (pick (leb (all_ruled_out p more (a * 2) words) (all_ruled_out p more (a * 2 + 1) words)) (a * 2) (a * 2 + 1)) words

-- the mask of a group: it is to be a symbol itself, and so it is found for one word more, 0
unfoldable pub mask_of : ℕ → List ℕ → ℕ
mask_of p words = mask_from p 16 0 (0 ∷ words)

-- a group as it is carried
unfoldable pub closed : ℕ → List ℕ → List ℕ
closed p words = covered (mask_of p words) words

-- and as it is read again
unfoldable pub opened : List ℕ → List ℕ
opened [] = []
opened (mask ∷ xs) = masked mask xs
