use Rattle.int_rows.proofs.PushedLemmas.{freed-basic, freed-basis}
use Rattle.int_rows.proofs.laws.freed_rows_are_basic.Goals as goal

pub returns-clause-basis : goal.returns-clause-basis
returns-clause-basis c = freed-basis

pub returns-clause-row : goal.returns-clause-row
returns-clause-row c = freed-basic
