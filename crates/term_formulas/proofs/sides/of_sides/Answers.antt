use Rattle.std.proofs.Common.{◌≡◌, ap, ◌∙◌, subst}
use Rattle.std.specs.Prelude.{IfOk, ℕ}
use Rattle.lin_atoms.specs.Linear.{Linear}
use Rattle.lin_atoms.specs.declared.form.Form.{Form}
use Rattle.linear_terms.specs.Formula.{related}
use Rattle.term_tables.specs.machinery.Table.{constant_in}
use Rattle.term_forms.specs.Found.{form_by}
use Rattle.term_formulas.specs.Written.{naming_by}
use Rattle.term_formulas.proofs.PairLemmas.{two-related}
use Rattle.term_formulas.proofs.sides.of_sides.Goals as goal

pub returns-clause-is : goal.returns-clause-is
returns-clause-is c =
    let form : ℕ → Linear = form_by (constant_in c.args.constants.now) (naming_by c.args.names.now) c.args.terms.now.nodes in
    subst (λ (f : Form). IfOk c.by_difference.result (λ form. form ≡ f))
    (ap (related c.args.op c.args.sign) c.in_ok-d.ensures.is ∙ two-related c.args.op c.args.sign (form c.args.a.0) (form c.args.b.0)) c.by_difference.ensures
