use Rattle.std.proofs.Common.{List, sym, subst}
use Rattle.clause_form.specs.System.{Clauses}
use Rattle.book_rules.specs.Walks.{AllOf}
use Rattle.chc_core.specs.declared.entry.Entry.{Entry}
use Rattle.search_strategy.specs.Runs.{CanRun}
use Rattle.book_loop.specs.Runs.{IsOwn}
use Rattle.worker_pool.proofs.AloneLemmas.{own-entries}
use Rattle.worker_pool.proofs.pool.solve_alone.Goals as goal

pub search-requires-clause-can_run : goal.search-requires-clause-can_run
search-requires-clause-can_run c = subst CanRun (sym c.in_ok-book.ensures.system) c.requires.can_run

pub search-requires-clause-own : goal.search-requires-clause-own
search-requires-clause-own c = subst (AllOf (IsOwn c.args.limits.nodes)) (sym c.in_ok-book.ensures.new) tt
