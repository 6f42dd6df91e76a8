-- The lowest number of a table that is met, test by test; and what a call that gives it says.
use mathlib.Core.Path.{◌≡◌, refl, sym, subst, ◌∙◌}
use mathlib.Core.Logic.{◌↔◌, ◌⊎◌, inl, inr, ⊎_elim, by_cases}
use mathlib.Core.Bool.{Bool, true, false, ◌&&◌, true≢false}
use mathlib.Core.List.{[], ◌∷◌, ◌++◌}
use Prim.Native.Nat.{ℕ, zero, suc, ◌≤◌, ◌<◌}
use native.Mathlib.Decide.{ℕ_discrete}
use native.Mathlib.Omega.{arith}
use borrow.Author.Tests.{leb-true}
use lib.Dec.{leb}
use Rattle.lists.specs.Choice.{first_of, when}
use Rattle.std.proofs.lemmas.Bool.{and_parts}
use Rattle.demands.specs.Judging.{Table, Met, Judged, Returns}

-- the number is the lowest that is met, or 0 where none is
pub record Tells (table : Table) (number : ℕ) : Type 0 where
  pub met : (number ≡ 0 → ⊥) → Met table number
  pub least : (f : ℕ) → Met table f → (0 < number) × (number ≤ f)

-- the numbers of a table are `low` or more, `high` or less
abbrev pub all_from : ℕ → Table → Bool
all_from low [] = true
all_from low (x ∷ xs) = leb low x.0 && all_from low xs

abbrev pub all_up_to : ℕ → Table → Bool
all_up_to high [] = true
all_up_to high (x ∷ xs) = leb x.0 high && all_up_to high xs

met_from : (low : ℕ) (table : Table) → all_from low table ≡ true → (f : ℕ) → Met table f → low ≤ f
met_from low [] e f m = absurd m
met_from low (x ∷ xs) e f (inl here) = omega (arith, leb-true low x.0 (and_parts _ (all_from low xs) e).0, here.0)
met_from low (x ∷ xs) e f (inr there) = met_from low xs (and_parts (leb low x.0) _ e).1 f there

met_up_to : (high : ℕ) (table : Table) → all_up_to high table ≡ true → (f : ℕ) → Met table f → f ≤ high
met_up_to high [] e f m = absurd m
met_up_to high (x ∷ xs) e f (inl here) = omega (arith, leb-true x.0 high (and_parts _ (all_up_to high xs) e).0, here.0)
met_up_to high (x ∷ xs) e f (inr there) = met_up_to high xs (and_parts (leb x.0 high) _ e).1 f there

-- a table behind a table
met_left : (a b : Table) (f : ℕ) → Met a f → Met (a ++ b) f
met_left [] b f m = absurd m
met_left (x ∷ xs) b f (inl here) = inl here
met_left (x ∷ xs) b f (inr there) = inr (met_left xs b f there)

met_right : (a b : Table) (f : ℕ) → Met b f → Met (a ++ b) f
met_right [] b f m = m
met_right (x ∷ xs) b f m = inr (met_right xs b f m)

met_split : (a b : Table) (f : ℕ) → Met (a ++ b) f → Met a f ⊎ Met b f
met_split [] b f m = inr m
met_split (x ∷ xs) b f (inl here) = inl (inl here)
met_split (x ∷ xs) b f (inr there) = ⊎_elim (λ m. inl (inr m)) (λ m. inr m) (met_split xs b f there)

-- a table with no line
pub empty : Tells [] 0
empty = record { met = λ some. absurd (some refl); least = λ f m. absurd m }

-- a test and its condition, before the lines after it
pub line : {C : Type 0} {rest : Table} {later : ℕ} (n : ℕ) (t : Bool) → all_from (suc n) rest ≡ true → (t ≡ true) ↔ C → (t ≡ false → Tells rest later) → Tells ((suc n, C) ∷ rest) (first_of (when t (suc n)) later)
line {rest = rest} n true low means after =
    record {
      met = λ some. inl (refl, means.0 refl);
      least = λ f m. (omega arith, ⊎_elim (λ here. omega (arith, here.0)) (met_from (suc n) rest low f) m);
    }
line n false low means after =
    let tail = after refl in
    record {
      met = λ some. inr (tail.met some);
      least = λ f m. ⊎_elim (λ here. absurd (true≢false (sym (means.1 here.1)))) (tail.least f) m;
    }

-- the last test
pub last : {C : Type 0} (n : ℕ) (t : Bool) → (t ≡ true) ↔ C → Tells ((suc n, C) ∷ []) (when t (suc n))
last n true means = record { met = λ some. inl (refl, means.0 refl); least = λ f m. (omega arith, ⊎_elim (λ here. omega (arith, here.0)) (λ none. absurd none) m) }
last n false means = record { met = λ some. absurd (some refl); least = λ f m. ⊎_elim (λ here. absurd (true≢false (sym (means.1 here.1)))) (λ none. absurd none) m }

-- one table after the other, the second where the first meets nothing
pub then : (high : ℕ) (a b : Table) {m n : ℕ} → all_up_to high a ≡ true → all_from high b ≡ true → Tells a m → (m ≡ 0 → Tells b n) → Tells (a ++ b) (first_of m n)
then high a b {m} {n} up low first after = go m first after
  where
    go : (m : ℕ) → Tells a m → (m ≡ 0 → Tells b n) → Tells (a ++ b) (first_of m n)
    go zero first after =
        let second = after refl in
        record {
          met = λ some. met_right a b n (second.met some);
          least = λ f m. ⊎_elim (λ here. absurd (omega (arith, (first.least f here).0))) (second.least f) (met_split a b f m);
        }
    go (suc m) first after =
        let here : Met a (suc m) = first.met (λ z. omega arith) in
        record {
          met = λ some. met_left a b (suc m) here;
          least = λ f m. (omega arith, ⊎_elim (λ x. (first.least f x).1) (λ x. omega (arith, met_up_to high a up _ here, met_from high b low f x)) (met_split a b f m));
        }

-- the number that a table tells is met, and no lower one is
pub told : {table : Table} {number : ℕ} → Tells table number → (f : ℕ) → ((number ≡ f) × (f ≡ 0 → ⊥)) ↔ (Met table f × ((g : ℕ) → g < f → Met table g → ⊥))
told {table = table} {number = number} tells f = (
  λ e. let (is, some) = e in (subst (Met table) is (tells.met (λ z. some (sym is ∙ z))), λ g lower m. omega (arith, (tells.least g m).1)),
  λ m.
      let (some, most) = tells.least f m.0 in
      by_cases (ℕ_discrete number f) (λ is. (is, λ z. omega arith)) (λ other. absurd (m.1 number (omega arith) (tells.met (λ z. omega arith)))),
)

-- a call that gives this number
pub call_judged : {table : Table} {gives : ℕ → Type 0} {kept : Type 0} (number : ℕ) → Tells table number → ((f : ℕ) → gives f ↔ ((number ≡ f) × (f ≡ 0 → ⊥))) → ((number ≡ 0 → ⊥) → kept) → Judged table gives kept
call_judged {table = table} number tells means kept =
    record {
      number = λ f. (λ g. (told tells f).0 ((means f).0 g), λ m. (means f).1 ((told tells f).1 m));
      accepted = (
        λ none f m. let (some, most) = tells.least f m in none number ((means number).1 (refl, λ z. omega arith)),
        λ none f g. none f ((told tells f).0 ((means f).0 g)).0,
      );
      unaltered = λ f g. let (is, some) = (means f).0 g in kept (λ z. some (sym is ∙ z));
    }

-- the number of an answer, by what the answer is made of
pub by_answer : {A : Type 0} (refused : ℕ → A) {r answer : A} {number : ℕ} → r ≡ answer → ((f : ℕ) → refused f ≡ answer → (f ≡ number) × (f ≡ 0 → ⊥)) → ((number ≡ 0 → ⊥) → answer ≡ refused number) → (f : ℕ) → (r ≡ refused f) ↔ ((number ≡ f) × (f ≡ 0 → ⊥))
by_answer refused {r} {answer} {number} is means beside f = (
  λ e. let (same, some) = means f (sym e ∙ is) in (sym same, some),
  λ e. let (same, some) = e in is ∙ beside (λ z. some (sym same ∙ z)) ∙ subst (λ (x : ℕ). refused number ≡ refused x) same refl,
)

-- a call that returns its number, which is 0 where there is none
pub by_number : {table : Table} {kept : Type 0} {r number : ℕ} → r ≡ number → Tells table number → ((r ≡ 0 → ⊥) → kept) → Judged table (Returns r) kept
by_number {r = r} is tells kept = call_judged r (rw is tells) (λ f. (λ e. e, λ e. e)) kept
