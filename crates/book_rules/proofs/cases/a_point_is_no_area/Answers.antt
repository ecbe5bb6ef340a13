use Rattle.book_rules.proofs.CaseLemmas.{careless_is_no_area, point_is_no_area}
use Rattle.book_rules.proofs.cases.a_point_is_no_area.Goals as goal

pub returns-clause-point : goal.returns-clause-point
returns-clause-point c = point_is_no_area

pub returns-clause-careless : goal.returns-clause-careless
returns-clause-careless c = careless_is_no_area
