use Rattle.std.proofs.Common.{◌≡◌, sym, subst}
use Rattle.std.specs.Prelude.{IfOk, IfSome}
use Rattle.lin_atoms.specs.Linear.{Linear}
use Rattle.linear_terms.specs.Linear.{less}
use Rattle.term_forms.specs.Found.{form_by}
use Rattle.term_formulas.specs.Written.{naming_by}
use Rattle.term_formulas.proofs.sides.leaves_less.Goals as goal

pub returns-in-Some-clause-is : goal.returns-in-Some-clause-is
returns-in-Some-clause-is c = λ constant.
    subst (λ (f : Linear). IfOk c.less_leaf.result (λ found. IfSome found (λ d. d ≡ less f (form_by constant (naming_by c.args.names.now) c.args.terms.now.nodes c.args.b.0))))
    (sym (c.in-Some.ensures.is constant)) (c.less_leaf.ensures.is constant)
