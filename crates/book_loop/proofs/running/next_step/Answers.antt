use Rattle.std.proofs.Common.{sym, subst}
use Rattle.step_rules.specs.Standing.{Standing}
use Rattle.obligation_turn.specs.Turns.{IsOpenLeaf}
use Rattle.search_strategy.specs.machinery.Steps.{IsTaken}
use Rattle.search_mind.specs.Minds.{IsMindFor}
use Rattle.book_loop.proofs.running.next_step.Goals as goal

pub serve-requires-clause-leaf : goal.serve-requires-clause-leaf
serve-requires-clause-leaf c = subst (λ (b : Standing). IsOpenLeaf b c.next_job-job.result) (sym c.lend-lent.ensures.is) c.next_job-job.ensures.fits

pub serve-requires-clause-mind : goal.serve-requires-clause-mind
serve-requires-clause-mind c = subst (λ (b : Standing). IsMindFor b.system c.args.mind.now) (sym c.lend-lent.ensures.is) c.requires.mind

pub returns-clause-taken : goal.returns-clause-taken
returns-clause-taken c = subst (λ (b : Standing). IsTaken b c.args.nodes c.in_ok-step.step) c.lend-lent.ensures.is c.in_ok-step.ensures.taken

pub returns-clause-mind : goal.returns-clause-mind
returns-clause-mind c = subst (λ (b : Standing). IsMindFor b.system c.serve.new.self) c.lend-lent.ensures.is c.in_ok-step.ensures.mind
