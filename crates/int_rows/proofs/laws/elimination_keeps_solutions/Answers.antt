use Rattle.int_rows.proofs.PivotLemmas.{eliminated-gone, eliminated-positive, eliminated-primitive, eliminated-solved}
use Rattle.int_rows.proofs.laws.elimination_keeps_solutions.Goals as goal

pub returns-clause-solutions : goal.returns-clause-solutions
returns-clause-solutions c = eliminated-solved

pub returns-clause-gone : goal.returns-clause-gone
returns-clause-gone c = eliminated-gone

pub returns-clause-primitive : goal.returns-clause-primitive
returns-clause-primitive c = eliminated-primitive

pub returns-clause-positive : goal.returns-clause-positive
returns-clause-positive c = eliminated-positive
