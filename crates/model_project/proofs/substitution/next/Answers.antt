use Rattle.std.proofs.Common.{◌∷◌, ◌&&◌, not, ap, sym, ◌∙◌}
use Rattle.model_project.specs.Elimination.{tidied}
use Rattle.model_project.specs.Substitution.{is_equation, replaced}
use Rattle.model_project.specs.machinery.Steps.{behind, one}
use Rattle.model_project.proofs.JudgeLemmas.{next_crossed, next_left}
use Rattle.model_project.proofs.substitution.next.Goals as goal

pub returns-then-came-clause-made : goal.returns-then-came-clause-made
returns-then-came-clause-made c = λ rest.
    let v = c.args.variable in
    let l = c.args.equation.now in
    let lit = c.args.lit.now in
    let made = c.in_ok-made.made in
    next_crossed v l c.args.came lit made rest (ap (λ b. not b && is_equation v lit) c.if-came.true) c.requires.here c.in_ok-made.ensures.made ∙ ap (λ b. behind (one made) (tidied (replaced v l b rest))) c.if-came.true

pub returns-then-is_equation-clause-made : goal.returns-then-is_equation-clause-made
returns-then-is_equation-clause-made c = λ rest.
    let v = c.args.variable in
    let l = c.args.equation.now in
    let lit = c.args.lit.now in
    ap (λ b. tidied (replaced v l b (lit ∷ rest))) c.if-came.false ∙ next_left v l lit c.in_ok-made-2.made rest (sym c.is_equation.ensures ∙ c.if-is_equation.true) c.in_ok-made-2.ensures.made

pub returns-clause-made : goal.returns-clause-made
returns-clause-made c = λ rest.
    let v = c.args.variable in
    let l = c.args.equation.now in
    let lit = c.args.lit.now in
    let made = c.in_ok-made-3.made in
    next_crossed v l c.args.came lit made rest (ap (λ b. not b && is_equation v lit) c.if-came.false ∙ sym c.is_equation.ensures ∙ c.if-is_equation.false) c.requires.here c.in_ok-made-3.ensures.made ∙ ap (λ b. behind (one made) (tidied (replaced v l b rest))) c.if-came.false
