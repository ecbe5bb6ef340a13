use Rattle.std.proofs.Common.{ap, ◌∙◌}
use Rattle.lin_atoms.specs.Linear.{Linear, are_ordered, fits}
use Rattle.lin_atoms.proofs.Public.{both_true}
use Rattle.linear_terms.specs.Linear.{is_narrow, less}
use Rattle.term_formulas.proofs.NarrowLemmas.{less_variable}
use Rattle.term_formulas.proofs.kinds.less_variable.Goals as goal

pub narrow_less-requires : goal.narrow_less-requires
narrow_less-requires c =
    let rise = (both_true (are_ordered 0 c.args.lin.now.terms) (fits c.args.lin.now) c.constant-constant.ensures.legal).0 in
    ap (λ (form : Linear). is_narrow (less c.args.lin.now form)) c.in_ok-variable_form.ensures ∙ less_variable c.args.v c.args.lin.now rise c.requires
