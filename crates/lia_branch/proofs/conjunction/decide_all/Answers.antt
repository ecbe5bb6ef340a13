use Rattle.std.proofs.Common.{ap, subst, ◌∙◌}
use Rattle.lin_atoms.specs.Truth.{is_below}
use Rattle.lin_atoms.specs.declared.form.Form.{Form}
use Rattle.lia_search.specs.Decides.{Decides, has_short_multiples}
use Rattle.lia_branch.proofs.ConjunctionLemmas.{conjunction-below, conjunction-short}
use Rattle.lia_branch.proofs.conjunction.decide_all.Goals as goal

pub decide_form-requires-clause-below : goal.decide_form-requires-clause-below
decide_form-requires-clause-below c = ap (is_below c.args.vars) c.in_ok-form.ensures ∙ conjunction-below c.args.vars c.args.lits.now c.requires.below

pub decide_form-requires-clause-short : goal.decide_form-requires-clause-short
decide_form-requires-clause-short c = ap has_short_multiples c.in_ok-form.ensures ∙ conjunction-short c.args.lits.now c.requires.short

pub returns : goal.returns
returns c = subst (λ (form : Form). Decides form c.args.vars c.args.nodes c.in_ok-decision.decision) c.in_ok-form.ensures c.in_ok-decision.ensures
