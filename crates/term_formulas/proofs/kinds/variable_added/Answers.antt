use Rattle.std.proofs.Common.{◌≡◌, true, false, ap, sym, ◌∙◌}
use Rattle.std.specs.Prelude.{Err}
use Rattle.lin_atoms.specs.Linear.{Linear, are_ordered, fits}
use Rattle.lin_atoms.specs.Algebra.{added}
use Rattle.lin_atoms.proofs.Public.{both_true}
use Rattle.term_formulas.proofs.NarrowLemmas.{variable_added}
use Rattle.term_formulas.proofs.kinds.variable_added.Goals as goal

pub unreachable-requires : goal.unreachable-requires
unreachable-requires c =
    let rise = (both_true (are_ordered 0 c.args.lin.now.terms) (fits c.args.lin.now) c.constant-constant.ensures.legal).0 in
    let wide : fits (added c.in_ok-variable_form.field-0 c.args.lin.now) ≡ false = c.added.ensures.wide (c.in-Err-Wide.is ∙ ap Err c.in-Err-Wide.field-0-is) in
    let room : fits (added c.in_ok-variable_form.field-0 c.args.lin.now) ≡ true =
    ap (λ (form : Linear). fits (added form c.args.lin.now)) c.in_ok-variable_form.ensures ∙ variable_added c.args.v c.args.lin.now rise c.requires in
    let both : true ≡ false = sym room ∙ wide in
    absurd (cc)
