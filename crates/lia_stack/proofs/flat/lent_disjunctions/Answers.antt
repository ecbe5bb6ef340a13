use Rattle.std.proofs.Common.{List, ◌++◌, ap, ◌∙◌}
use Rattle.lin_atoms.specs.declared.form.Form.{Form}
use Rattle.refutation_trees.specs.Flatten.{disjunctions}
use Rattle.lia_stack.proofs.flat.lent_disjunctions.Goals as goal

pub returns : goal.returns
returns c = c.from_vec.ensures ∙ c.in_ok-push_disjunctions.ensures ∙ ap (λ (cases : List (List Form)). cases ++ disjunctions c.args.form.now) c.new-cases.ensures.items
