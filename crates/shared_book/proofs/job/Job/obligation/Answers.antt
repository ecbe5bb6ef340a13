use Rattle.std.proofs.Common.{ℕ, rules, subst, sym}
use Rattle.chc_core.specs.Views.{standing_of}
use Rattle.obligation_turn.specs.Turns.{IsOpenLeaf}
use Rattle.shared_book.specs.Jobs.{IsJob}
use Rattle.shared_book.proofs.job.Job.obligation.Goals as goal

pub returns-clause-is : goal.returns-clause-is
returns-clause-is g c = search rules

pub returns-clause-leaf : goal.returns-clause-leaf
returns-clause-leaf g c =
    let kept = subst (IsJob _) c.self.view_is c.self.invariant in
    subst (λ (n : ℕ). IsOpenLeaf (standing_of c.args.self.now.snapshot) n) (sym (returns-clause-is g c)) kept.leaf
