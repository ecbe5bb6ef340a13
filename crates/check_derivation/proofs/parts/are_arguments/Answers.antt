use Rattle.std.proofs.Common.{rules, sym}
use Rattle.std.specs.Prelude.{IsErrOf}
use Rattle.term_tree.specs.declared.evaluation.ValueStop.TheVariants.{ValueWide}
use Rattle.check_derivation.proofs.parts.are_arguments.Goals as goal

pub returns-in_err-equal-clause-wide : goal.returns-in_err-equal-clause-wide
returns-in_err-equal-clause-wide c = λ term h.
    let told : IsErrOf c.is_argument.result (ValueWide term) = search rules in
    (c.index-args-i.result, (c.loop-i.i, c.loop-i-test.true, sym c.index-args-i.is), c.is_argument.ensures.wide term told)
