use Rattle.std.proofs.Common.{◌+◌, ◌*◌, length, arith}
use Rattle.interpretations.proofs.FullLemmas.{literal-as}
use Rattle.interpretations.proofs.literals.literal.Goals as goal

pub returns-in_ok-id-in-Le-clause-added : goal.returns-in_ok-id-in-Le-clause-added
returns-in_ok-id-in-Le-clause-added c =
    literal-as c.args.sorts.now c.args.lit.now _ (4 + 7 * length c.in-Le.lin.terms) c.args.terms.now.nodes _ c.in_ok-id-in-Le.id c.in-Le.is (omega arith) c.in_ok-id-in-Le.ensures.added

pub returns-in_ok-id-in-Eq-clause-added : goal.returns-in_ok-id-in-Eq-clause-added
returns-in_ok-id-in-Eq-clause-added c =
    literal-as c.args.sorts.now c.args.lit.now _ (4 + 7 * length c.in-Eq.lin.terms) c.args.terms.now.nodes _ c.in_ok-id-in-Eq.id c.in-Eq.is (omega arith) c.in_ok-id-in-Eq.ensures.added

pub returns-in_ok-id-in-Div-clause-added : goal.returns-in_ok-id-in-Div-clause-added
returns-in_ok-id-in-Div-clause-added c =
    literal-as c.args.sorts.now c.args.lit.now _ (4 + 7 * length c.in-Div.lin.terms) c.args.terms.now.nodes _ c.in_ok-id-in-Div.id c.in-Div.is (omega arith) c.in_ok-id-in-Div.ensures.added

pub returns-in_ok-id-in-NDiv-clause-added : goal.returns-in_ok-id-in-NDiv-clause-added
returns-in_ok-id-in-NDiv-clause-added c =
    literal-as c.args.sorts.now c.args.lit.now _ (5 + 7 * length c.in-NDiv.lin.terms) c.args.terms.now.nodes _ c.in_ok-id-in-NDiv.id c.in-NDiv.is (omega arith) c.in_ok-id-in-NDiv.ensures.added
