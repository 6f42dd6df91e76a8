-- The shifts and the base word by themselves.
use Rattle.std.specs.Prelude.{◌≡◌, List, ℕ}
use Rattle.generator.specs.declared.Header.{Header}
use Rattle.generator.specs.Records.{Sound}
use Rattle.plan.specs.Plans.{plan_of}

-- the shifts and the base word of an accepted record's plan
pub record Planned (h : Header) (shifts base : List ℕ) : Type 0 where
  pub sound : Sound h
  pub shifts_are : shifts ≡ (plan_of h).shifts
  pub base_is : base ≡ (plan_of h).base
