use Rattle.std.proofs.Common.{List, ap, ◌∙◌}
use Rattle.lin_atoms.specs.declared.form.Form.{Form}
use Rattle.lin_atoms.specs.declared.form.Form.TheViews.{And}
use Rattle.term_formulas.proofs.literals.all_three.Goals as goal

pub returns : goal.returns
returns c = ap (λ (parts : List Form). And parts) (c.from_vec-parts.ensures ∙ c.in_ok-from_array.ensures.items)
