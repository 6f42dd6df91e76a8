-- A promise over a record, from the promise over the header that it holds, or from what holds beside a number.
use Rattle.std.specs.Prelude.{Ok, Err}
use Rattle.generator.specs.Answers.{Answer}
use mathlib.Core.Path.{◌≡◌, refl, sym, ◌∙◌}
use mathlib.Core.List.{List}
use Prim.Native.Nat.{ℕ, zero, suc}
use native.Mathlib.Omega.{arith}
use Rattle.lists.proofs.Cases.{first_zero}
use Rattle.generator.specs.declared.Header.{Header}
use Rattle.generator.specs.Records.{header_of, record_fault, judged, record_of, Sound}
use Rattle.generator.proofs.Accepts.{held_header, faultless_sound}
use Rattle.refusals.specs.Faults.{fault_of}
use Rattle.refusals.specs.Promise.{OnRecord}
use Rattle.refusals.proofs.Order.{first_given}

-- a record that meets a number meets its own, which is not 0
met_number : (rec : List ℕ) (g : ℕ) → record_of rec ≡ Err g → (record_fault rec ≡ g) × (g ≡ 0 → ⊥)
unfolding record_of judged
met_number rec g e = go (record_fault rec) refl
  where
    go : (f : ℕ) → record_fault rec ≡ f → (record_fault rec ≡ g) × (g ≡ 0 → ⊥)
    go zero q = let w : judged zero (header_of rec) ≡ Err g = rw q at e in let z : ◌≡◌ {A = ℕ} 0 1 = cc in absurd (omega arith)
    go (suc f) q =
        let w : judged (suc f) (header_of rec) ≡ Err g = rw q at e in
        let same : suc f ≡ g = cc in
        (q ∙ same, λ z. omega arith)

-- where neither the record nor the call has a number
pub none_met : (rec : List ℕ) (call : Header → ℕ) → fault_of rec call ≡ 0 → Sound (header_of rec) × (call (header_of rec) ≡ 0)
unfolding fault_of
none_met rec call e =
    let (none, after) = first_zero (record_fault rec) (call (header_of rec)) e in
    (faultless_sound rec none, after)

module _ {rec : List ℕ} {call : Header → ℕ} {P : Header → ℕ → Type 0} where
  -- a record that holds a header leaves the number to the call
  pub on_header : (h : Header) → record_of rec ≡ Ok h → P h (call h) → OnRecord rec call P
  unfolding fault_of
  on_header h e p =
      let (none, same) = held_header rec h e in
      record { promise = rw (none, same) p }

  -- a record that meets a number gives it to every call
  pub on_number : (g : ℕ) → record_of rec ≡ Err g → ((h : Header) → (g ≡ 0 → ⊥) → P h g) → OnRecord rec call P
  unfolding fault_of
  on_number g e p =
      let (same, some) = met_number rec g e in
      record { promise = rw (same, first_given g (call (header_of rec)) some) (p (header_of rec) some) }

  -- the same from what was read
  pub on_held : {r : Answer Header} {h : Header} → r ≡ record_of rec → r ≡ Ok h → P h (call h) → OnRecord rec call P
  on_held {h = h} read held = on_header h (sym read ∙ held)

  pub on_met : {r : Answer Header} {g : ℕ} → r ≡ record_of rec → r ≡ Err g → ((h : Header) → (g ≡ 0 → ⊥) → P h g) → OnRecord rec call P
  on_met {g = g} read met = on_number g (sym read ∙ met)
