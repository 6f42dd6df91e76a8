-- The conditions of numbers 7 to 13, one for each thing that a call is given.
use Rattle.std.specs.Prelude.{Bool, ◌||◌, not, List, ℕ, eqb, ltb, leb, get_or}
use Rattle.lists.specs.Numbers.{all_below, distinct}
use Rattle.layout.specs.Layout.{Arrangement, lane_of}
use Rattle.layout.specs.Width.{symbols_of}
use Rattle.generator.specs.declared.Header.{Header}
use Rattle.generator.specs.Records.{size, width}
use Rattle.generator.specs.Codewords.{is_word}
use Rattle.generator.specs.Messages.{message_of}

-- number 7: no lane, or more than 4,096
unfoldable pub lanes_bad : ℕ → Bool
lanes_bad l = eqb l 0 || ltb 4096 l

-- number 8: a buffer or list has another length than stated
unfoldable pub length_bad : ℕ → ℕ → Bool
length_bad stated long = not (eqb long stated)

-- number 9: a number is not below the end of its range
unfoldable pub number_bad : ℕ → ℕ → Bool
number_bad end x = leb end x

-- number 9: a list names a node that there is not
unfoldable pub nodes_bad : Header → List ℕ → Bool
nodes_bad h nodes = not (all_below h.n nodes)

-- number 10: a node stands twice in a list
unfoldable pub twice_bad : List ℕ → Bool
twice_bad nodes = not (distinct nodes)

-- number 11: a number is no symbol
unfoldable pub symbol_bad : Header → ℕ → Bool
symbol_bad h x = leb (size h) x

-- number 11: a buffer holds a number that is no symbol
unfoldable pub symbols_bad : Header → List ℕ → Bool
symbols_bad h s = not (all_below (size h) (symbols_of (width h) s))

-- number 11: lane t of n shares does, which are arranged as y says
unfoldable pub lane_bad : Arrangement → Header → ℕ → ℕ → List ℕ → Bool
lane_bad y h l t shares = not (all_below (size h) (lane_of y h.n l t (symbols_of (width h) shares)))

-- number 12: a lane is no word of the code
unfoldable pub no_word : Header → List ℕ → Bool
no_word h ws = not (is_word h ws)

-- number 13: the message of a lane holds another symbol than `old` at number r
unfoldable pub other_symbol : Header → List ℕ → ℕ → ℕ → Bool
other_symbol h ws r old = not (eqb (get_or (message_of h ws) r 0) old)
