use Rattle.std.proofs.Common.{sym, subst}
use Rattle.std.specs.Prelude.{IfSome}
use Rattle.step_rules.specs.Standing.{Standing}
use Rattle.search_strategy.specs.machinery.Steps.{IsOffered}
use Rattle.search_mind.specs.Minds.{IsMindFor}
use Rattle.book_loop.proofs.running.small_step.Goals as goal

pub small_step-requires-clause-mind : goal.small_step-requires-clause-mind
small_step-requires-clause-mind c = subst (λ (b : Standing). IsMindFor b.system c.args.mind.now) (sym c.lend-lent.ensures.is) c.requires.mind

pub returns-clause-offered : goal.returns-clause-offered
returns-clause-offered c = subst (λ (b : Standing). IfSome c.in_ok-found.found (IsOffered b.system c.args.nodes)) c.lend-lent.ensures.is c.in_ok-found.ensures.offered

pub returns-clause-mind : goal.returns-clause-mind
returns-clause-mind c = subst (λ (b : Standing). IsMindFor b.system c.small_step.new.self) c.lend-lent.ensures.is c.small_step.ensures.mind
