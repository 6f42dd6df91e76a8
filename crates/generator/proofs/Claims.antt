-- Everything that is claimed of an accepted plan.
use Rattle.std.specs.Prelude.{Ok, Err}
use Rattle.generator.specs.Answers.{Answer}
use mathlib.Core.Path.{◌≡◌}
use mathlib.Core.List.{List}
use Prim.Native.Nat.{ℕ}
use Rattle.lists.proofs.Numbers.{all_below_lem, all_distinct}
use Rattle.generator.specs.declared.Header.{Header}
use Rattle.generator.specs.Records.{record_of, Sound}
use Rattle.generator.specs.Shifts.{shifts}
use Rattle.generator.specs.Claims.{Ours, Promised}
use Rattle.generator.proofs.Accepts.{accepted_sound}
use Rattle.generator.proofs.Shifts.{shifts_places, shifts_length, shifts_first, firsts_at}
use Rattle.generator.proofs.Entries.{row_weight, rows_base}
use Rattle.generator.proofs.Recovery.{some_message, one_message}
use Rattle.generator.proofs.Words.{words_poly, words_encode, encoding_symbols, encoding_word}
use Rattle.generator.proofs.Messages.{message_back, word_message}
use Rattle.generator.proofs.Changes.{alters}
use Rattle.generator.proofs.Costs.{depends, whole, total, upper_node, begins, depends_means}
use Rattle.generator.proofs.SchemeOf.{our_scheme}

-- the code of a sound header
pub ours : (h : Header) → Sound h → Ours h
ours h s =
    let places = shifts_places h.n h.k s.some s.fits in
    record {
      some_message = some_message h s;
      one_message = one_message h s;
      words_poly = words_poly h s;
      words_encode = words_encode h s;
      encodes_symbols = encoding_symbols h s;
      encodes_word = encoding_word h s;
      message_back = message_back h s;
      word_message = word_message h s;
      row_weight = λ r j row node. row_weight h s r j;
      alters = λ ms r x m row low other. alters h s ms r x m row low other;
      depends = depends h s;
      whole = whole h s;
      total = total h s;
      upper_node = upper_node h s;
      depends_means = depends_means h s;
      shifts_many = shifts_length h.n h.k s.some s.fits;
      shifts_below = all_below_lem h.n (shifts h) places.low;
      shifts_different = all_distinct (shifts h) places.distinct;
      first_shift = shifts_first h.n h.k s.some s.fits;
      firsts_negative = firsts_at h.n h.k s.some s.fits;
      begins = begins h s;
      rows_base = λ r j row node. rows_base h s r j;
    }

-- what is promised of every record
pub promised : (rec : List ℕ) (r : Answer Header) → record_of rec ≡ r → Promised r
unfolding Promised
promised rec (Ok h) e = let s = accepted_sound rec h e in record { code = ours h s; scheme = our_scheme h s }
promised rec (Err f) e = tt
