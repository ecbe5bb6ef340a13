use Rattle.int_rows.proofs.QuotientLemmas.{ready-div, ready-ndiv}
use Rattle.int_rows.proofs.ReadyLemmas.{ready-le, ready-eq}
use Rattle.int_rows.proofs.laws.ready_keeps_points.Goals as goal

pub returns-clause-at_most : goal.returns-clause-at_most
returns-clause-at_most c = ready-le

pub returns-clause-equal : goal.returns-clause-equal
returns-clause-equal c = ready-eq

pub returns-clause-divides : goal.returns-clause-divides
returns-clause-divides c = λ q n p lin. ready-div q n p lin

pub returns-clause-leaves_rest : goal.returns-clause-leaves_rest
returns-clause-leaves_rest c = λ q n p lin. ready-ndiv q n p lin
