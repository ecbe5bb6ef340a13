use Rattle.std.proofs.Common.{rules, sym}
use Rattle.std.specs.Prelude.{IsErrOf}
use Rattle.term_tree.specs.declared.evaluation.ValueStop.TheVariants.{ValueWide}
use Rattle.check_derivation.proofs.parts.are_met.Goals as goal

pub returns-in_err-met-clause-wide : goal.returns-in_err-met-clause-wide
returns-in_err-met-clause-wide c = λ term h.
    let told : IsErrOf c.is_met.result (ValueWide term) = search rules in
    (c.guard-item.result, (c.loop-guard.guard-index, c.loop-guard-test.true, sym c.guard-item.is), c.is_met.ensures.wide term told)
