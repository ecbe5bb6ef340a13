use Rattle.std.proofs.Common.{sym, subst}
use Rattle.clause_form.specs.System.{Clauses}
use Rattle.search_mind.specs.Minds.{IsMindFor}
use Rattle.worker_pool.proofs.ServeLemmas.{offered-run}
use Rattle.worker_pool.proofs.working.serve.Goals as goal

pub serve-requires-clause-mind : goal.serve-requires-clause-mind
serve-requires-clause-mind g c = subst (λ (sys : Clauses). IsMindFor sys c.args.mind.now) (sym c.requires.system) c.requires.mind

pub offer_turn-requires-clause-step : goal.offer_turn-requires-clause-step
offer_turn-requires-clause-step g c = offered-run c.args.lent.now g.R.Run.system c.args.nodes g.R.Run.nodes c.in_ok-step.step c.requires.system c.requires.nodes c.in_ok-step.ensures.taken

pub returns-then-branch-clause-mind : goal.returns-then-branch-clause-mind
returns-then-branch-clause-mind g c = c.begin.ensures g.R.Run.system (subst (λ (sys : Clauses). IsMindFor sys c.serve.new.self) c.requires.system c.in_ok-step.ensures.mind)

pub returns-else-branch-clause-mind : goal.returns-else-branch-clause-mind
returns-else-branch-clause-mind g c = subst (λ (sys : Clauses). IsMindFor sys c.serve.new.self) c.requires.system c.in_ok-step.ensures.mind
