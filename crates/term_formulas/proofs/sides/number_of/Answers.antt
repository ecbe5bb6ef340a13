use Rattle.std.proofs.Common.{rules, FitsSigned, ◌≡◌, true, ap, sym, ◌∙◌}
use Rattle.std.specs.Prelude.{slice_get, Some}
use Rattle.std.specs.Int.{w64}
use Rattle.std.proofs.lemmas.Int.{to_z-of_z}
use Rattle.term_tree.specs.Arena.{has_parts_below}
use Rattle.term_tree.specs.declared.node.Node.{Node}
use Rattle.term_tree.specs.declared.node.Node.TheVariants.{Num}
use Rattle.lin_atoms.specs.Linear.{of_constant}
use Rattle.linear_terms.proofs.PartLemmas.{linear_at}
use Rattle.term_forms.specs.Found.{form_by}
use Rattle.term_formulas.proofs.sides.number_of.Goals as goal

pub returns-in-Num-clause-is : goal.returns-in-Num-clause-is
returns-in-Num-clause-is c = λ constant naming.
    let node = Num c.in-Num.n in
    let there : slice_get c.args.terms.now.nodes c.args.id.0 ≡ Some node = c.node.ensures.is ∙ ap (λ (n : Node). Some n) c.in-Num.is in
    let below : has_parts_below c.args.id.0 node ≡ true = ap (has_parts_below c.args.id.0) (sym c.in-Num.is) ∙ c.node.ensures.below in
    let is : form_by constant naming c.args.terms.now.nodes c.args.id.0 ≡ of_constant c.in-Num.n = linear_at constant naming c.args.terms.now.nodes c.args.id.0 c.args.id.0 node there below in
    let fits : FitsSigned w64 c.in-Num.n = search rules in
    simp to_z-of_z is
