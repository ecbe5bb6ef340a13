use Rattle.int_rows.proofs.SpaceLemmas.{same-basic, same-basis, same-follows, same-solutions, same-wide}
use Rattle.int_rows.proofs.laws.same_space_keeps_solutions_and_bases.Goals as goal

pub returns-clause-solutions : goal.returns-clause-solutions
returns-clause-solutions c = same-solutions

pub returns-clause-follows : goal.returns-clause-follows
returns-clause-follows c = same-follows

pub returns-clause-basic_row : goal.returns-clause-basic_row
returns-clause-basic_row c = same-basic

pub returns-clause-basis : goal.returns-clause-basis
returns-clause-basis c = same-basis

pub returns-clause-wide_row : goal.returns-clause-wide_row
returns-clause-wide_row c = same-wide
