use Rattle.std.proofs.Common.{sym, ◌∙◌}
use Rattle.chc_core.specs.Views.{standing_of}
use Rattle.search_strategy.proofs.JobLemmas.{open_leaf}
use Rattle.shared_book.proofs.ChoiceLemmas.{next-open, next-stalled}
use Rattle.shared_book.proofs.claiming.with_leaf.Goals as goal

pub is_stalled-requires : goal.is_stalled-requires
is_stalled-requires c = c.requires.leaf.there

pub with_open-requires-clause-leaf : goal.with_open-requires-clause-leaf
with_open-requires-clause-leaf c = open_leaf (standing_of c.args.snapshot.now) c.args.id c.requires.leaf (sym c.is_stalled.ensures ∙ c.if-is_stalled.false)

pub returns-then-is_stalled-clause-is : goal.returns-then-is_stalled-clause-is
returns-then-is_stalled-clause-is c = next-stalled c.args.snapshot.now.tree.nodes c.args.worker c.args.snapshot.now c.args.best c.args.id (sym c.is_stalled.ensures ∙ c.if-is_stalled.true)

pub returns-else-is_stalled-clause-is : goal.returns-else-is_stalled-clause-is
returns-else-is_stalled-clause-is c =
    c.with_open.ensures.is ∙ next-open c.args.snapshot.now.tree.nodes c.args.worker c.args.snapshot.now c.args.best c.args.id (sym c.is_stalled.ensures ∙ c.if-is_stalled.false)
