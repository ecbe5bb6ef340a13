use Rattle.std.proofs.Common.{◌≡◌, subst}
use Rattle.std.specs.Prelude.{Option, IfSome}
use Rattle.lin_atoms.specs.Linear.{Linear}
use Rattle.linear_terms.specs.Linear.{less}
use Rattle.term_tables.specs.machinery.Table.{constant_in}
use Rattle.term_forms.specs.Found.{form_by}
use Rattle.term_formulas.specs.Written.{naming_by}
use Rattle.term_formulas.proofs.sides.sides_less.Goals as goal

pub returns-in-Some-clause-is : goal.returns-in-Some-clause-is
returns-in-Some-clause-is c =
    let constant = constant_in c.args.constants.now in
    let naming = naming_by c.args.names.now in
    let nodes = c.args.terms.now.nodes in
    subst (λ (found : Option Linear). IfSome found (λ d. d ≡ less (form_by constant naming nodes c.args.a.0) (form_by constant naming nodes c.args.b.0))) c.in-Some.is (c.in_ok-d.ensures.is constant)
