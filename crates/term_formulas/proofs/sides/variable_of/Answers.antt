use Rattle.std.proofs.Common.{◌≡◌, true, ap, sym, ◌∙◌}
use Rattle.std.specs.Prelude.{slice_get, Some}
use Rattle.term_tree.specs.Arena.{has_parts_below}
use Rattle.term_tree.specs.declared.node.Node.{Node}
use Rattle.term_tree.specs.declared.node.Node.TheVariants.{Var}
use Rattle.linear_terms.specs.Linear.{variable_form}
use Rattle.linear_terms.proofs.PartLemmas.{linear_at}
use Rattle.term_formulas.specs.Written.{naming_by}
use Rattle.term_formulas.proofs.sides.variable_of.Goals as goal

pub returns-in-Var-clause-is : goal.returns-in-Var-clause-is
returns-in-Var-clause-is c = λ constant.
    let node = Var c.in-Var.binder c.in-Var.sort in
    let there : slice_get c.args.terms.now.nodes c.args.id.0 ≡ Some node = c.node.ensures.is ∙ ap (λ (n : Node). Some n) c.in-Var.is in
    let below : has_parts_below c.args.id.0 node ≡ true = ap (has_parts_below c.args.id.0) (sym c.in-Var.is) ∙ c.node.ensures.below in
    linear_at constant (naming_by c.args.names.now) c.args.terms.now.nodes c.args.id.0 c.args.id.0 node there below ∙ ap variable_form (sym c.name_of.ensures)
