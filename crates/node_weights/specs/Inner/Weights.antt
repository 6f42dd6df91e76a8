-- Weights for k listed nodes: sums of what the nodes hold times the weights give a symbol of the message, or what another node holds.
use Rattle.std.specs.Prelude.{◌≡◌, true, List, ℕ, ◌-◌, get_or, drop}
use Rattle.lists.specs.Numbers.{all_below}
use Rattle.lists.specs.Padded.{zeros}
use Rattle.field.specs.Inner.Sums.{dot}
use Rattle.generator.specs.declared.Header.{Header}
use Rattle.generator.specs.Records.{modulus_of, size}
use Rattle.generator.specs.Codewords.{node_of}
use Rattle.generator.specs.Claims.{is_message, at_nodes}

-- an array of k weights, and zeros after them, with which the listed nodes give a value of the message, whatever it is
pub record WeightsFor (h : Header) (nodes : List ℕ) (value : List ℕ → ℕ) (ws : List ℕ) : Type 0 where
  pub symbols : all_below (size h) ws ≡ true
  pub rest : drop h.k ws ≡ zeros (255 - h.k)
  pub gives : (ms : List ℕ) → is_message h ms ≡ true → value ms ≡ dot (modulus_of h) (at_nodes h ms nodes) ws

-- they give what node t holds
abbrev pub Rebuilds : Header → List ℕ → ℕ → List ℕ → Type 0
Rebuilds h nodes t ws = WeightsFor h nodes (λ ms. node_of h ms t) ws

-- they give symbol r
abbrev pub Recovers : Header → List ℕ → ℕ → List ℕ → Type 0
Recovers h nodes r ws = WeightsFor h nodes (λ ms. get_or ms r 0) ws
