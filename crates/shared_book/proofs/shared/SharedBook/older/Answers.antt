use Rattle.shared_book.proofs.RunLemmas.{older-in-run}
use Rattle.shared_book.proofs.shared.SharedBook.older.Goals as goal

pub returns : goal.returns
returns g c = older-in-run _ _ _ _ c.args.part.now _ c.older.result c.older.ensures.run c.older.ensures.older
