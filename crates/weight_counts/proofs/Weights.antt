-- The code of an accepted record has any k symbols at any k nodes of exactly one message, so its weight distribution is the textbook's.
use Rattle.std.specs.Prelude.{Ok, Err}
use Rattle.generator.specs.Answers.{Answer}
use Rattle.std.proofs.Common.{◌≡◌, ℕ, zero, suc, ◌+◌, true, List, length, replicate, sym, refl, ◌∙◌, eq-eqb}
use Rattle.std.proofs.lemmas.Bool.{and_from}
use Rattle.lists.proofs.Numbers.{below_all, all_below_lem, all_distinct}
use Rattle.lists.proofs.Places.{Places}
use Rattle.field.proofs.Arithmetic.{zero-mul}
use Rattle.field.proofs.BothKinds.{arithmetic}
use Rattle.field.proofs.FieldOf.{size_pos}
use Rattle.generator.specs.declared.Header.{Header}
use Rattle.generator.specs.Records.{modulus_of, size, distance, record_of, Sound}
use Rattle.generator.specs.Generator.{entry}
use Rattle.generator.specs.Codewords.{node_from, node_of}
use Rattle.generator.specs.Claims.{is_message, are_nodes}
use Rattle.generator.proofs.Accepts.{accepted_sound}
use Rattle.generator.proofs.Bounds.{entry_below, node_from_below}
use Rattle.generator.proofs.Recovery.{message_size, message_below, message_is, some_message, one_message}
use Rattle.weight_distribution.specs.Counts.{message_at}
use Rattle.weight_distribution.proofs.Messages.{Message, numbered_message, message_numbers}
use Rattle.weight_distribution.proofs.Zeros.{Mds}
use Rattle.weight_distribution.proofs.Distribution.{counts_sum, weights_textbook, textbook_exact}
use Rattle.weight_counts.specs.Weights.{weight_count_of, Distribution, Distributed}

-- a message, by its test and by what the test says
message_passes : (h : Header) (m : List ℕ) → Message (size h) h.k m → is_message h m ≡ true
message_passes h m g = message_is h m g.size (all_below_lem (size h) m g.below)

passes_message : (h : Header) (m : List ℕ) → is_message h m ≡ true → Message (size h) h.k m
passes_message h m e = record { size = message_size h m e; below = below_all (size h) m (message_below h m e) }

places_pass : (h : Header) (js : List ℕ) → Places h.n h.k js → are_nodes h js ≡ true
unfolding are_nodes
places_pass h js p = and_from _ _ (eq-eqb (length js) h.k p.size) (and_from _ _ (all_below_lem h.n js p.low) (all_distinct js p.distinct))

module _ (h : Header) (s : Sound h) where
  -- the message of zeros has zero at every node
  zeros_node : (i r j : ℕ) → node_from r h (replicate i 0) j ≡ 0
  unfolding node_from
  zeros_node zero r j = refl
  zeros_node (suc i) r j =
      let laws = arithmetic (modulus_of h) s.field in
      rw (zeros_node i (r + 1) j, zero-mul laws (entry h r j) (entry_below h s r j)) (laws.add-zero 0 (size_pos (modulus_of h) s.field))

  pub code : Mds h.n h.k (size h) (node_of h)
  unfolding node_of
  code =
      record {
        some = size_pos (modulus_of h) s.field;
        fits = s.fits;
        symbol = λ m j g l. node_from_below h s 0 m j (all_below_lem (size h) m g.below);
        one =
            λ js ys p g.
            let (m, e, v) = some_message h s js ys (places_pass h js p) g.size (all_below_lem (size h) ys g.below) in
            (m, (passes_message h m e, v), λ us u. one_message h s js us m (places_pass h js p) (message_passes h us u.0) e (u.1 ∙ sym v));
        zeros = λ j l. zeros_node h.k 0 j;
      }

  pub distribution : Distribution h
  unfolding weight_count_of distance
  distribution =
      let pos = size_pos (modulus_of h) s.field in
      record {
        message = λ x. message_passes h (message_at h.k (size h) x) (numbered_message (size h) h.k x pos);
        some_number = λ ms e. let (x, is, unique) = message_numbers (size h) h.k ms pos (passes_message h ms e) in (x, is.0, is.1);
        one_number =
            λ x y lx ly e.
            let (z, is, unique) = message_numbers (size h) h.k (message_at h.k (size h) y) pos (numbered_message (size h) h.k y pos) in
            unique x (lx, e) ∙ sym (unique y (ly, refl));
        whole = counts_sum h.n h.k (size h) (node_of h);
        agrees = weights_textbook code;
        exact = textbook_exact code;
      }

-- of every record
pub distributed : (rec : List ℕ) (r : Answer Header) → record_of rec ≡ r → Distributed r
unfolding Distributed
distributed rec (Ok h) e = distribution h (accepted_sound rec h e)
distributed rec (Err f) e = tt
