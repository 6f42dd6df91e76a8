-- The plan held against the plain layout for the same k and n: the plain layout of the same code, and the figures of both.
use Rattle.std.specs.Prelude.{Ok, Err}
use Rattle.generator.specs.Answers.{Answer}
use Rattle.std.specs.Prelude.{◌≡◌, true}
use Prim.Native.Nat.{ℕ, ◌≤◌, Fin}
use Rattle.lists.specs.Numbers.{all_below}
use Rattle.field.specs.Symbols.{Symbol}
use Rattle.scheme.specs.Messages.{Message, symbols}
use Rattle.scheme.specs.Schemes.{Scheme}
use Rattle.scheme.specs.Layouts.{HasFigures, Plain, plain_reads}
use Rattle.generator.specs.declared.Header.{Header}
use Rattle.generator.specs.Records.{size, distance, low_reads, high_reads}
use Rattle.generator.specs.Codewords.{is_word}
use Rattle.generator.specs.Claims.{OurScheme}

-- the plain layout of the plan's code, its systematic form: the nodes below k hold the message, and the n nodes together a word of the code
pub record PlainScheme (h : Header) : Type 0 where
  pub scheme : Scheme h.k h.n (Symbol (size h)) (λ j. ℕ)
  pub systematic : (m : Message (Symbol (size h)) h.k) (j : Fin h.n) (r : Fin h.k) → j.0 ≡ r.0 → scheme.holds m j ≡ (m r).0
  pub below : (m : Message (Symbol (size h)) h.k) → all_below (size h) (symbols h.n (scheme.holds m)) ≡ true
  pub word : (m : Message (Symbol (size h)) h.k) → is_word h (symbols h.n (scheme.holds m)) ≡ true
  pub plain : Plain scheme

-- the greatest number of symbols that a node of a plain layout depends on
unfoldable pub plain_greatest : Header → ℕ
plain_greatest h = plain_reads h.k h.n

-- the comparison, for the header of an accepted record
pub record Compared (h : Header) : Type 0 where
  -- the scheme of the plan: each change alters exactly d nodes, each node depends on k·d / n symbols, rounded down or up
  pub ours : OurScheme h
  pub our_figures : HasFigures ours.scheme (distance h) (low_reads h) (high_reads h)
  -- the plain layout of the same code: d nodes too, and from 1 to `plain_greatest` symbols
  pub plain : PlainScheme h
  pub plain_figures : HasFigures plain.scheme (distance h) 1 (plain_greatest h)
  -- every plain layout of numbers has these figures
  pub every_plain : (other : Scheme h.k h.n ℕ (λ j. ℕ)) → Plain other → HasFigures other (distance h) 1 (plain_greatest h)
  -- no scheme of numbers alters fewer nodes, or has a lesser greatest number of symbols
  pub bound : (other : Scheme h.k h.n ℕ (λ j. ℕ)) (writes low high : ℕ) → HasFigures other writes low high → (distance h ≤ writes) × (high_reads h ≤ high)

-- the same of a record that was read
unfoldable pub ComparedRecord : Answer Header → Type 0
ComparedRecord (Ok h) = Compared h
ComparedRecord (Err f) = Unit {0}
