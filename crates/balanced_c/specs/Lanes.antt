-- What the functions of the C interface on single lanes promise: the returned number, and every lent number afterwards.
use Rattle.std.specs.Prelude.{◌≡◌, List, ℕ, eqb, length}
use Rattle.lists.specs.Choice.{pick}
use Rattle.layout.specs.Width.{symbols_of, bytes_of}
use Rattle.generator.specs.Records.{header_of, record_of, width}
use Rattle.refusals.specs.Faults.{fault_of}
use Rattle.find_update.specs.declared.Finding.{Finding}
use Rattle.find_update.specs.Finding.{finding_of}
use Rattle.find_update.specs.Promise.{find_fault, Found}
use Rattle.find_update.specs.Numbers.{case_of, found_symbol, found_amount}
use Rattle.mends.specs.Mends.{mend_nodes, mend_symbols}
use Rattle.mends.specs.Promise.{mends_fault, in_front, Mended}

-- the finding for two lanes in lent buffers
unfoldable pub found_in : List ℕ → List ℕ → List ℕ → Finding
found_in rec before after = let h = header_of rec in finding_of h (symbols_of (width h) before) (symbols_of (width h) after)

-- `balanced_find_update`: the number, and the finding in numbers where there is none
pub record FindGives (rec before after : List ℕ) (found symbol amount found' symbol' amount' f : ℕ) : Type 0 where
  pub number : f ≡ fault_of rec (λ h. find_fault h before after)
  pub found_is : found' ≡ pick (eqb f 0) (case_of (found_in rec before after)) found
  pub symbol_is : symbol' ≡ pick (eqb f 0) (found_symbol (found_in rec before after)) symbol
  pub amount_is : amount' ≡ pick (eqb f 0) (found_amount (found_in rec before after)) amount
  pub claims : Found (record_of rec)

-- the list of a lane in a lent buffer: its nodes, and its symbols as bytes
unfoldable pub mended_nodes : List ℕ → List ℕ → List ℕ
mended_nodes rec lane = let h = header_of rec in mend_nodes h (symbols_of (width h) lane)

unfoldable pub mended_bytes : List ℕ → List ℕ → List ℕ
mended_bytes rec lane = let h = header_of rec in bytes_of (width h) (mend_symbols h (symbols_of (width h) lane))

-- `balanced_mends`: the number, and the count and the list where there is none
pub record MendsGive (rec lane nodes symbols : List ℕ) (count : ℕ) (nodes' symbols' : List ℕ) (count' f : ℕ) : Type 0 where
  pub number : f ≡ fault_of rec (λ h. mends_fault h lane (length nodes) (length symbols))
  pub count_is : count' ≡ pick (eqb f 0) (length (mended_nodes rec lane)) count
  pub nodes_are : nodes' ≡ pick (eqb f 0) (in_front (mended_nodes rec lane) nodes) nodes
  pub symbols_are : symbols' ≡ pick (eqb f 0) (in_front (mended_bytes rec lane) symbols) symbols
  pub claims : Mended (record_of rec)
