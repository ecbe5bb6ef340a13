use Rattle.std.proofs.Common.{rules, subst}
use Rattle.book_rules.specs.Kept.{IsOrdered}
use Rattle.chc_core.specs.Contents.{Contents}
use Rattle.chc_core.specs.Views.{standing_of, state_of}
use Rattle.step_rules.specs.Standing.{IsStanding}
use Rattle.chc_core.proofs.BookLemmas.{ordered, standing}
use Rattle.chc_core.proofs.book.Book.lend.Goals as goal

pub returns-clause-is : goal.returns-clause-is
returns-clause-is c = search rules

pub returns-clause-standing : goal.returns-clause-standing
returns-clause-standing c = subst (λ (b : Contents). IsStanding (standing_of b)) c.self.view_is (standing c.self.inside.parts c.self.invariant)

pub returns-clause-ordered : goal.returns-clause-ordered
returns-clause-ordered c = subst (λ (b : Contents). IsOrdered (state_of b)) c.self.view_is (ordered c.self.inside.parts c.self.invariant)
