use Rattle.std.proofs.Common.{Some, refl}
use Rattle.book_rules.specs.declared.by.By.TheVariants.{Fact as ByFact, Obligation as ByObligation}
use Rattle.book_rules.proofs.CaseLemmas.{open_outside, open_shut_out, open_unknown}
use Rattle.book_rules.proofs.ExampleLemmas.{open_fits}
use Rattle.book_rules.proofs.cases.opens_break_rules.Goals as goal

pub returns-clause-closed : goal.returns-clause-closed
returns-clause-closed c = refl

pub returns-clause-never : goal.returns-clause-never
returns-clause-never c = refl

pub returns-clause-low : goal.returns-clause-low
returns-clause-low c = refl

pub returns-clause-outside : goal.returns-clause-outside
returns-clause-outside c = open_outside

pub returns-clause-shut_out : goal.returns-clause-shut_out
returns-clause-shut_out c = open_shut_out

pub returns-clause-known : goal.returns-clause-known
returns-clause-known c = open_fits (Some (6, ByFact 0))

pub returns-clause-many : goal.returns-clause-many
returns-clause-many c = open_fits (Some (8, ByObligation 1))

pub returns-clause-unknown : goal.returns-clause-unknown
returns-clause-unknown c = open_unknown
