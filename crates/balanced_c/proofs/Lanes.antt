-- From the answers of the calls on single lanes to what the functions of the C interface promise.
use Rattle.std.specs.Prelude.{Ok, Err}
use Rattle.std.specs.Result.{result_unwrap_or}
use Rattle.generator.specs.Answers.{Answer, fault_in}
use Rattle.generator.proofs.Answered.{done_is, value_is, refused_is, answer_number}
use mathlib.Core.Path.{◌≡◌, sym, ap, ◌∙◌}
use mathlib.Core.List.{List}
use Prim.Native.Nat.{ℕ}
use lib.ListN.{length}
use Rattle.refusals.specs.Faults.{fault_of}
use Rattle.blocks.proofs.Refused.{refused_value}
use Rattle.find_update.specs.declared.Finding.{Finding}
use Rattle.find_update.specs.Promise.{find_fault, FindSays}
use Rattle.find_update.specs.Numbers.{case_of, found_symbol, found_amount}
use Rattle.mends.specs.Promise.{mends_fault, MendsSay}
use Rattle.balanced_c.specs.Lanes.{found_in, FindGives, mended_nodes, mended_bytes, MendsGive}
use Rattle.balanced_c.proofs.Answers.{counted_value}

module _ (rec before after : List ℕ) (answer symbol amount : ℕ) where
  -- what was found in numbers
  pub find_done : {r s : Finding} → r ≡ s → FindSays rec before after (Ok r) → FindGives rec before after answer symbol amount (case_of s) (found_symbol s) (found_amount s) 0
  unfolding found_in
  find_done {r} is says =
      let none = done_is (fault_of rec (λ h. find_fault h before after)) _ says.found.promise.answered in
      let same = value_is _ _ says.found.promise.answered in
      record {
        number = sym none;
        found_is = ap case_of (sym is ∙ same);
        symbol_is = ap found_symbol (sym is ∙ same);
        amount_is = ap found_amount (sym is ∙ same);
        claims = says.claims;
      }

  pub find_refuses : (g : ℕ) → FindSays rec before after (Err g) → FindGives rec before after answer symbol amount answer symbol amount g
  unfolding found_in
  find_refuses g says =
      let (same, some) = refused_is (fault_of rec (λ h. find_fault h before after)) _ g says.found.promise.answered in
      record {
        number = same;
        found_is = sym (refused_value g _ answer some);
        symbol_is = sym (refused_value g _ symbol some);
        amount_is = sym (refused_value g _ amount some);
        claims = says.claims;
      }

module _ (rec lane nodes symbols nodes' symbols' : List ℕ) (a : Answer ℕ) (count : ℕ) where
  abbrev fault : ℕ
  fault = fault_of rec (λ h. mends_fault h lane (length nodes) (length symbols))

  -- the list, and how many entries it has
  pub mends_give : (count' r : ℕ) → r ≡ fault_in a → count' ≡ result_unwrap_or a count → MendsSay rec lane nodes symbols nodes' symbols' a → MendsGive rec lane nodes symbols count nodes' symbols' count' r
  unfolding mended_nodes mended_bytes
  mends_give count' r e v says =
      let promise = says.listed.promise in
      let listed : ℕ = length (mended_nodes rec lane) in
      let number : r ≡ fault = e ∙ ap fault_in promise.answered ∙ answer_number fault listed in
      record {
        number = number;
        count_is = rw number (v ∙ ap (λ (x : Answer ℕ). result_unwrap_or x count) promise.answered ∙ counted_value listed count fault);
        nodes_are = rw number promise.nodes_written;
        symbols_are = rw number promise.symbols_written;
        claims = says.claims;
      }
