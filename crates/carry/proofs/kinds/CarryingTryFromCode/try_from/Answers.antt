-- `Carrying::try_from` meets its contract: a prime that carries none is turned away.
use mathlib.Core.Path.{refl}
use native.Mathlib.Omega.{arith}
use Rattle.field.specs.Kinds.{modulus}
use Rattle.generator.specs.Answers.{answer_of}
use Rattle.carrying.specs.Carrying.{carries_none}
use Rattle.carry.specs.Inner.Kinds.{field_of}
use Rattle.carry.proofs.Accepts.{modulus_word, few_carry_none, many_carry}
use Rattle.carry.proofs.kinds.CarryingTryFromCode.try_from.Goals as goal

pub returns-in-Binary : goal.returns-in-Binary
unfolding modulus carries_none field_of answer_of
returns-in-Binary c = rw c.in-Binary.is refl

pub returns-in-Prime : goal.returns-in-Prime
unfolding modulus answer_of
returns-in-Prime c =
    let none = few_carry_none c.in-Prime.f (rw c.in-Prime.is at c.args.code.sound.usable_field) c.if-f-lt34816.true in
    rw (c.in-Prime.is, none)

pub invariant_of-result-clause-word : goal.invariant_of-result-clause-word
unfolding modulus
invariant_of-result-clause-word c = rw c.in-Prime-2.is at (modulus_word c.args.code.header.field c.args.code.sound.usable_field)

pub returns-in-Prime-2 : goal.returns-in-Prime-2
unfolding modulus field_of answer_of
returns-in-Prime-2 c = rw (c.in-Prime-2.is, many_carry c.in-Prime-2.f.p (omega arith)) refl
