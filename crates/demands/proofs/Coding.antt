-- Demand 2, proved for every sound header.
use mathlib.Core.Path.{◌≡◌, sym, ◌∙◌}
use mathlib.Core.List.{List}
use Prim.Native.Nat.{ℕ, ◌<◌}
use native.Mathlib.Nat.{zero-add}
use lib.ListN.{get_or}
use Rattle.lists.proofs.Rows.{get_or_from}
use Rattle.layout.specs.Layout.{row_after_row, lane_of, share_layout}
use Rattle.layout.proofs.Places.{share_lawful}
use Rattle.generator.specs.declared.Header.{Header}
use Rattle.generator.specs.Records.{Sound}
use Rattle.generator.specs.Codewords.{encoding}
use Rattle.generator.proofs.Words.{encoding_word}
use Rattle.blocks.specs.Blocks.{share_at, share_of}
use Rattle.blocks.proofs.Shares.{lane_encodes}
use Rattle.blocks.proofs.Messages.{lane_message, some_buffer, one_buffer, gathered_message}
use Rattle.blocks.proofs.Recovered.{recovered_message}
use Rattle.generator.proofs.Messages.{node_at}
use Rattle.blocks.proofs.Words.{passes_code, names_code}
use Rattle.demands.specs.Coding.{CodeDemands}

-- a share holds, in each lane, the node's symbol of the encoding
share_symbol : (h : Header) (l : ℕ) (m : List ℕ) (target t : ℕ) → target < h.n → t < l → get_or (share_of h l m target) t 0 ≡ get_or (encoding h (lane_of row_after_row h.k l t m)) target 0
unfolding share_of share_at
share_symbol h l m target t node inside = rw zero-add at (get_or_from (share_at h l m target) 0 l t 0 inside) ∙ sym (node_at h (lane_of row_after_row h.k l t m) target node)

pub code_demands : (h : Header) → Sound h → CodeDemands h
code_demands h s =
    record {
      encodes = λ l m. lane_encodes h l m share_lawful;
      word = λ l m is t inside. rw (lane_encodes h l m share_lawful t inside) (encoding_word h s (lane_of row_after_row h.k l t m) (lane_message h l m t inside is.long is.symbols));
      returns = λ l nodes m out different is found. one_buffer share_lawful h s l nodes different _ out m found (gathered_message share_lawful h s l nodes different m is.long is.symbols);
      some = λ l nodes shares different is. some_buffer share_lawful h s l nodes different shares is.long is.symbols;
      one = λ l nodes shares m u different a b. one_buffer share_lawful h s l nodes different shares m u a b;
      recovers = λ l nodes shares different is. recovered_message h s nodes different share_lawful l shares is.long is.symbols;
      rebuilds = share_symbol h;
      passes = λ l shares is. passes_code share_layout h l shares share_lawful s is.long is.symbols;
      names = λ l shares is. names_code share_layout h l shares share_lawful s is.long is.symbols;
    }
