use Rattle.std.proofs.Common.{sym, subst}
use Rattle.chc_core.specs.machinery.Books.{IsBook}
use Rattle.chc_core.proofs.BookLemmas.{new-kept}
use Rattle.chc_core.proofs.book.Book.new.Goals as goal

pub new-requires : goal.new-requires
new-requires c = record { clauses = c.requires.numbered.0; preds = c.requires.numbered.1 }

pub invariant_of-result : goal.invariant_of-result
invariant_of-result c = subst IsBook (sym c.in_ok-parts.ensures.is) (new-kept c.args.system c.args.units c.in_ok-parts.ensures.legal c.requires.numbered c.requires.units)
