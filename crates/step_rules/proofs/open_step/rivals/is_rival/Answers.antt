use Rattle.std.proofs.Common.{◌≤◌, length, ap, sym, arith}
use Rattle.obligation_tree.specs.declared.node.Node.{Node}
use Rattle.book_rules.specs.OpenRules.{is_rival}
use Rattle.step_rules.specs.Taken.{open_of}
use Rattle.step_rules.specs.Views.{obligation_of}
use Rattle.step_rules.proofs.WalkLemmas.{past-end}
use Rattle.step_rules.proofs.open_step.rivals.is_rival.Goals as goal

pub returns-then-id-count : goal.returns-then-id-count
returns-then-id-count c =
    let nodes = c.args.tree.now.nodes in
    let past : length nodes ≤ c.args.id = omega arith in
    sym (ap (λ (n : Node). is_rival (open_of c.args.step.now) (obligation_of n)) (past-end nodes c.args.id past))
