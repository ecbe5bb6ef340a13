use Rattle.std.proofs.Common.{◌≡◌, None, rules, subst, sym}
use Rattle.book_rules.specs.Legal.{end}
use Rattle.chc_core.specs.Contents.{Contents}
use Rattle.chc_core.specs.Views.{standing_of, state_of}
use Rattle.obligation_turn.specs.Turns.{IsThin}
use Rattle.shared_book.specs.Jobs.{IsJob}
use Rattle.shared_book.proofs.job.Job.snapshot.Goals as goal

pub returns-clause-is : goal.returns-clause-is
returns-clause-is g c = search rules

pub returns-clause-system : goal.returns-clause-system
returns-clause-system g c = subst (λ (b : Contents). b.system ≡ _) (sym (returns-clause-is g c)) (subst (IsJob _) c.self.view_is c.self.invariant).system

pub returns-clause-few : goal.returns-clause-few
returns-clause-few g c = c.self.invariant.few

pub returns-clause-goes_on : goal.returns-clause-goes_on
returns-clause-goes_on g c = subst (λ (b : Contents). end (state_of b) ≡ None) (sym (returns-clause-is g c)) (subst (IsJob _) c.self.view_is c.self.invariant).goes_on

pub returns-clause-thin : goal.returns-clause-thin
returns-clause-thin g c = subst (λ (b : Contents). IsThin (standing_of b)) (sym (returns-clause-is g c)) (subst (IsJob _) c.self.view_is c.self.invariant).thin
