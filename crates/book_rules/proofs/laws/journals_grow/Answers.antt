use Rattle.book_rules.proofs.JournalLemmas.{legal-push, replay-push}
use Rattle.book_rules.proofs.laws.journals_grow.Goals as goal

pub returns-clause-state : goal.returns-clause-state
returns-clause-state c = replay-push

pub returns-clause-legal : goal.returns-clause-legal
returns-clause-legal c = legal-push
