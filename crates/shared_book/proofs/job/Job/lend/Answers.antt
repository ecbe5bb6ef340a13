use Rattle.std.proofs.Common.{ap, subst, sym, ◌∙◌}
use Rattle.step_rules.specs.Standing.{Standing}
use Rattle.chc_core.specs.Views.{standing_of}
use Rattle.obligation_turn.specs.Turns.{GoesOn, IsOpenLeaf}
use Rattle.shared_book.specs.Jobs.{Asked, IsJob}
use Rattle.shared_book.proofs.JobLemmas.{goes_on}
use Rattle.shared_book.proofs.job.Job.lend.Goals as goal

pub returns-clause-is : goal.returns-clause-is
returns-clause-is g c = c.lend.ensures.is ∙ ap (λ (a : Asked). standing_of a.snapshot) c.self.view_is

pub returns-clause-system : goal.returns-clause-system
returns-clause-system g c = ap (λ (b : Standing). b.system) c.lend.ensures.is ∙ c.self.invariant.system

pub returns-clause-goes_on : goal.returns-clause-goes_on
returns-clause-goes_on g c = subst GoesOn (sym c.lend.ensures.is) (goes_on _ _ c.self.invariant c.lend.ensures.standing c.lend.ensures.ordered c.facts-facts.ensures.recorded)

pub returns-clause-leaf : goal.returns-clause-leaf
returns-clause-leaf g c = subst (λ (b : Standing). IsOpenLeaf b c.args.self.now.obligation) (sym (returns-clause-is g c)) (subst (IsJob _) c.self.view_is c.self.invariant).leaf
