use Rattle.std.proofs.Common.{subst}
use Rattle.book_rules.specs.Instances.{instances}
use Rattle.book_rules.specs.Kept.{IsSound}
use Rattle.chc_core.specs.Views.{state_of}
use Rattle.chc_core.specs.machinery.Books.{IsBook}
use Rattle.chc_core.proofs.BookLemmas.{sound}
use Rattle.chc_core.proofs.book.Book.replay_law.Goals as goal

pub returns : goal.returns
returns c =
    let kept = subst IsBook c.self.view_is c.self.invariant in
    let lemmas : IsSound (instances c.args.self.now.system) (state_of c.args.self.now) = sound c.args.self.now kept in
    record { replayed = kept.replayed; legal = kept.legal; over = kept.over; sound = lemmas; numbered = kept.numbered; made = kept.made }
