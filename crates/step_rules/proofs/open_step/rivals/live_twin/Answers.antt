use Rattle.std.proofs.Common.{◌∙◌, ap, sym}
use Rattle.std.specs.List.{find}
use Rattle.step_rules.specs.Taken.{open_of}
use Rattle.step_rules.specs.machinery.Walks.{twin_at}
use Rattle.step_rules.proofs.LiveLemmas.{first-twin}
use Rattle.step_rules.proofs.open_step.rivals.live_twin.Goals as goal

pub returns : goal.returns
returns c = c.first_twin.ensures ∙ ap (find (twin_at c.args.tree.now.nodes (open_of c.args.step.now) c.args.tuple.now)) c.live.ensures ∙ sym (first-twin c.args.tree.now.nodes (open_of c.args.step.now) c.args.tuple.now)
