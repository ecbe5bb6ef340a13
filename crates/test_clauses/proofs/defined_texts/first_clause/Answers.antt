use Rattle.std.proofs.Common.{ℕ, sym, subst}
use Rattle.horn_shape.specs.Clause.{IsClauseOf}
use Rattle.test_clauses.proofs.defined_texts.first_clause.Goals as goal

pub returns : goal.returns
returns g c =
    let is = c.in-Ok.ensures.clause in
    subst (λ (n : ℕ). IsClauseOf c.args.script.now n c.in-Ok.clause) (sym is.number) is
