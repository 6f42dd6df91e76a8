-- `judge` meets its contract.
use Rattle.std.proofs.Common.{sym, ◌∙◌}
use Rattle.std.proofs.lemmas.Result.{err_from_is_err_and}
use Rattle.generator.proofs.Faults.{meets_four, meets_five, meets_none, no_fault, sizes}
use Rattle.generator.proofs.Accepts.{header_sound}
use Rattle.records.proofs.judge.Goals as goal

pub returns-in_err-when : goal.returns-in_err-when
returns-in_err-when c =
    let p = err_from_is_err_and c.from_residual.result c.from_residual.ensures.1 in
    rw (p.1, p.2, c.in_err-when.ensures.1) (meets_four _ (sym c.size_bad.ensures ∙ c.in_err-when.ensures.0))

pub root_bad-requires : goal.root_bad-requires
root_bad-requires c = (c.requires, (sizes _ (sym c.size_bad.ensures ∙ c.in_ok-when.ensures)).0)

pub returns-in_err-when-2 : goal.returns-in_err-when-2
returns-in_err-when-2 c =
    let p = err_from_is_err_and c.from_residual-in_err-when-2.result c.from_residual-in_err-when-2.ensures.1 in
    rw (p.1, p.2, c.in_err-when-2.ensures.1) (meets_five _ (sym c.size_bad.ensures ∙ c.in_ok-when.ensures) (sym c.root_bad.ensures ∙ c.in_err-when-2.ensures.0))

pub invariant_of-result : goal.invariant_of-result
invariant_of-result c =
    record { sound = header_sound _ c.requires (no_fault _ (sym c.size_bad.ensures ∙ c.in_ok-when.ensures) (sym c.root_bad.ensures ∙ c.in_ok-when-2.ensures)) }

pub returns : goal.returns
returns c = meets_none _ (sym c.size_bad.ensures ∙ c.in_ok-when.ensures) (sym c.root_bad.ensures ∙ c.in_ok-when-2.ensures)
