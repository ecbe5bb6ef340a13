use Rattle.std.proofs.Common.{ap, ◌∙◌}
use Rattle.lin_atoms.specs.Linear.{Linear, are_ordered, fits}
use Rattle.lin_atoms.proofs.Public.{both_true}
use Rattle.linear_terms.specs.Linear.{is_narrow, less}
use Rattle.term_formulas.proofs.NarrowLemmas.{variable_less}
use Rattle.term_formulas.proofs.kinds.variable_less.Goals as goal

pub narrow_less-requires : goal.narrow_less-requires
narrow_less-requires c =
    let rise = (both_true (are_ordered 0 c.args.lin.now.terms) (fits c.args.lin.now) c.constant-constant.ensures.legal).0 in
    ap (λ (form : Linear). is_narrow (less form c.args.lin.now)) c.in_ok-variable_form.ensures ∙ variable_less c.args.v c.args.lin.now rise c.requires
