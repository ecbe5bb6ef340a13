use Rattle.std.proofs.Common.{subst}
use Rattle.call_words.specs.Words.{default_nodes, default_units}
use Rattle.call_gen.specs.Summaries.{generated}
use Rattle.call_gen.specs.Answers.{IsMadeOf}
use Rattle.call_gen.proofs.call.written.Goals as goal

pub answered-requires-clause-summary : goal.answered-requires-clause-summary
answered-requires-clause-summary g c = (subst (IsMadeOf (generated c.args.depth c.args.seed) default_units default_nodes) c.in-Answered.is c.requires).0

pub answered-requires-clause-counts : goal.answered-requires-clause-counts
answered-requires-clause-counts g c = (subst (IsMadeOf (generated c.args.depth c.args.seed) default_units default_nodes) c.in-Answered.is c.requires).1

pub unfinished-requires-clause-book : goal.unfinished-requires-clause-book
unfinished-requires-clause-book g c = (subst (IsMadeOf (generated c.args.depth c.args.seed) default_units default_nodes) c.in-Unfinished.is c.requires).0

pub unfinished-requires-clause-counts : goal.unfinished-requires-clause-counts
unfinished-requires-clause-counts g c = (subst (IsMadeOf (generated c.args.depth c.args.seed) default_units default_nodes) c.in-Unfinished.is c.requires).1
