use Rattle.std.proofs.Common.{rules}
use Rattle.std.specs.Prelude.{IsErrOf}
use Rattle.term_tree.specs.declared.evaluation.ValueStop.TheVariants.{ValueWide}
use Rattle.check_derivation.proofs.parts.is_argument.Goals as goal

pub returns-in_err-found-clause-wide : goal.returns-in_err-found-clause-wide
returns-in_err-found-clause-wide c = λ term h.
    let told : IsErrOf c.part_value.result (ValueWide term) = search rules in
    c.part_value.ensures.wide term told
