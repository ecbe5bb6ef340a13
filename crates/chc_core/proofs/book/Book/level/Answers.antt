use Rattle.std.proofs.Common.{ℕ, ◌≤◌, rules, subst}
use Rattle.chc_core.specs.machinery.Books.{IsBook}
use Rattle.chc_core.proofs.BookLemmas.{below-no_false}
use Rattle.chc_core.proofs.book.Book.level.Goals as goal

pub returns-clause-is : goal.returns-clause-is
returns-clause-is c = search rules

pub returns-clause-no_false : goal.returns-clause-no_false
returns-clause-no_false c = λ h low. below-no_false c.args.self.now (subst IsBook c.self.view_is c.self.invariant) h (subst (λ (n : ℕ). h ≤ n) (returns-clause-is c) low)
