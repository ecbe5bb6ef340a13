use Rattle.shared_book.proofs.shared.SharedBook.into_book.Goals as goal

pub returns-clause-system : goal.returns-clause-system
returns-clause-system g c = c.into_book.ensures.run.system

pub returns-clause-given : goal.returns-clause-given
returns-clause-given g c = c.into_book.ensures.run.given

pub returns-clause-entries : goal.returns-clause-entries
returns-clause-entries g c = c.into_book.ensures.run.entries

pub returns-clause-thin : goal.returns-clause-thin
returns-clause-thin g c = c.into_book.ensures.run.thin
