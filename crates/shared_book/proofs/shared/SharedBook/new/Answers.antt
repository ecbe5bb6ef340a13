use Rattle.shared_book.proofs.RunLemmas.{run-opening}
use Rattle.shared_book.proofs.shared.SharedBook.new.Goals as goal

pub new-requires-clause-run : goal.new-requires-clause-run
new-requires-clause-run g c = run-opening _ _ _ _ c.args.book c.requires.system c.requires.given c.requires.new c.requires.few c.requires.thin
