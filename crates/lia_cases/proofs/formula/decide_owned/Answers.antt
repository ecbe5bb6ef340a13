use Rattle.std.proofs.Common.{◌∷◌, ap, subst, ◌∙◌}
use Rattle.std.proofs.lemmas.Bool.{and_from}
use Rattle.lin_atoms.specs.Truth.{is_below}
use Rattle.lin_atoms.specs.declared.form.Form.{Form}
use Rattle.lin_atoms.proofs.Public.{is_below-And}
use Rattle.lia_search.specs.Decides.{Decides, has_short_multiples}
use Rattle.lia_search.proofs.Public.{short-And}
use Rattle.lia_cases.proofs.formula.decide_owned.Goals as goal

pub decide_form-requires-clause-below : goal.decide_form-requires-clause-below
decide_form-requires-clause-below c = ap (is_below c.args.vars) c.in_ok-whole.ensures ∙ is_below-And c.args.vars (c.args.form ∷ c.args.lemmas) ∙ and_from _ _ c.requires.below c.requires.lemmas_below

pub decide_form-requires-clause-short : goal.decide_form-requires-clause-short
decide_form-requires-clause-short c = ap has_short_multiples c.in_ok-whole.ensures ∙ short-And (c.args.form ∷ c.args.lemmas) ∙ and_from _ _ c.requires.short c.requires.lemmas_short

pub returns : goal.returns
returns c = subst (λ (form : Form). Decides form c.args.vars c.args.nodes c.in_ok-decision.decision) c.in_ok-whole.ensures c.in_ok-decision.ensures
