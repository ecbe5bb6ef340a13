use Rattle.std.proofs.Common.{arith, subst}
use Rattle.chc_core.specs.machinery.Books.{IsBook}
use Rattle.chc_core.proofs.MadeLemmas.{journal-room}
use Rattle.chc_core.proofs.book.Book.entry.Goals as goal

pub overflow_cast-number : goal.overflow_cast-number
overflow_cast-number c =
    let most = journal-room c.args.self.now (subst IsBook c.self.view_is c.self.invariant) in
    omega (arith, most, c.requires.last)
