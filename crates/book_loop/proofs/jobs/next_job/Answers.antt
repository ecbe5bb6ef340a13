use Rattle.std.proofs.Common.{subst, refl}
use Rattle.obligation_tree.specs.Nodes.{TreeState as Tree}
use Rattle.chc_core.specs.Views.{standing_of}
use Rattle.search_strategy.specs.Jobs.{IsFirst}
use Rattle.book_loop.specs.machinery.Jobs.{AreStalled, IsJob}
use Rattle.book_loop.proofs.JobLemmas.{first-open, some_job}
use Rattle.book_loop.proofs.jobs.next_job.Goals as goal

pub returns : goal.returns
returns c = first-open (standing_of c.args.book.now) c.in-Some.job (subst (λ (t : Tree). IsFirst t.nodes (IsJob t.nodes) c.in-Some.job) c.tree-tree.ensures.is c.in-Some.ensures.first)

pub unreachable-requires : goal.unreachable-requires
unreachable-requires c =
    some_job c.args.book.now c.tree-tree.ensures.rooted c.requires (subst (λ (t : Tree). AreStalled t.nodes) c.tree-tree.ensures.is (c.in-None.ensures.none refl))
