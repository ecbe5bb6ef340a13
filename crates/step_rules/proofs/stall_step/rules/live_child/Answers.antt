use Rattle.std.proofs.Common.{◌∙◌, ap, sym}
use Rattle.std.specs.List.{find}
use Rattle.step_rules.specs.machinery.Walks.{child_at}
use Rattle.step_rules.proofs.LiveLemmas.{first-child}
use Rattle.step_rules.proofs.stall_step.rules.live_child.Goals as goal

pub returns : goal.returns
returns c = c.first_child.ensures ∙ ap (find (child_at c.args.tree.now.nodes c.args.parent)) c.live.ensures ∙ sym (first-child c.args.tree.now.nodes c.args.parent)
