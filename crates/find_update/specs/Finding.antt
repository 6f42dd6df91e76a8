-- The single update that leads from one lane to another, by definition.
use Rattle.std.specs.Prelude.{◌≡◌, ◌↔◌, Bool, not, List, ℕ, ◌<◌, eqb, ltb, get_or}
use Rattle.lists.specs.Choice.{pick}
use Rattle.lists.specs.Counting.{differ}
use Rattle.lists.specs.Rows.{from}
use Rattle.lists.specs.Search.{first_false}
use Rattle.field.specs.Fields.{sub, mul}
use Rattle.generator.specs.declared.Header.{Header}
use Rattle.generator.specs.Records.{modulus_of, size}
use Rattle.generator.specs.Generator.{entry}
use Rattle.find_update.specs.declared.Finding.{Finding}
use Rattle.find_update.specs.declared.Finding.TheVariants.{Unchanged, Added, NoSingleUpdate}
use Rattle.blocks.specs.Blocks.{word_added}

unfoldable pub taken_away : Header → ℕ → ℕ → List ℕ → List ℕ
taken_away h r x vs = from (λ j. sub (modulus_of h) (get_or vs j 0) (mul (modulus_of h) x (entry h r j))) 0 h.n

-- adding x to symbol r of the message leads from us to vs
unfoldable pub leads : Header → List ℕ → List ℕ → ℕ → ℕ → Bool
leads h us vs r x = eqb (differ (word_added h r x us) vs) 0

-- the least amount that does so at symbol r, or the field's size
unfoldable pub amount_at : Header → List ℕ → List ℕ → ℕ → ℕ
amount_at h us vs r = first_false (size h) 0 (λ x. not (leads h us vs r x))

-- the least symbol at which some amount does, or k
unfoldable pub symbol_of : Header → List ℕ → List ℕ → ℕ
symbol_of h us vs = first_false h.k 0 (λ r. eqb (amount_at h us vs r) (size h))

unfoldable pub finding_of : Header → List ℕ → List ℕ → Finding
finding_of h us vs =
    pick (eqb (differ us vs) 0) Unchanged
    (pick (ltb (symbol_of h us vs) h.k) (Added (symbol_of h us vs) (amount_at h us vs (symbol_of h us vs))) NoSingleUpdate)

-- what holds of the answer for two lanes, which need not be words of the code
pub record Finds (h : Header) (us vs : List ℕ) : Type 0 where
  pub unchanged : (finding_of h us vs ≡ Unchanged) ↔ (us ≡ vs)
  -- they differ, and no symbol and amount lead from the first to the second
  pub none : (finding_of h us vs ≡ NoSingleUpdate) ↔ ((us ≡ vs → ⊥) × ((r x : ℕ) → r < h.k → x < size h → word_added h r x us ≡ vs → ⊥))
  -- the amount leads from the first to the second and back, and no other symbol and amount do
  pub there : (r x : ℕ) → finding_of h us vs ≡ Added r x → (r < h.k) × (x < size h) × (word_added h r x us ≡ vs)
  pub back : (r x : ℕ) → finding_of h us vs ≡ Added r x → taken_away h r x vs ≡ us
  pub only : (r x r' x' : ℕ) → finding_of h us vs ≡ Added r x → r' < h.k → x' < size h → word_added h r' x' us ≡ vs → (r' ≡ r) × (x' ≡ x)
