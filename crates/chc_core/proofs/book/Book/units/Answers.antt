use Rattle.std.proofs.Common.{ℕ, ◌≤◌, rules, sym, subst}
use Rattle.chc_core.specs.machinery.Books.{IsBook}
use Rattle.chc_core.proofs.BookLemmas.{units_within}
use Rattle.chc_core.proofs.book.Book.units.Goals as goal

pub returns-clause-is : goal.returns-clause-is
returns-clause-is c = search rules

pub returns-clause-within : goal.returns-clause-within
returns-clause-within c = subst (λ (n : ℕ). n ≤ c.args.self.now.given) (sym (returns-clause-is c)) (units_within c.args.self.now (subst IsBook c.self.view_is c.self.invariant))
