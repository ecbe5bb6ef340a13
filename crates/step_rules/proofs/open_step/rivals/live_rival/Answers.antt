use Rattle.std.proofs.Common.{◌∙◌, ap, sym}
use Rattle.std.specs.List.{find}
use Rattle.step_rules.specs.Taken.{open_of}
use Rattle.step_rules.specs.machinery.Walks.{rival_at}
use Rattle.step_rules.proofs.LiveLemmas.{first-rival}
use Rattle.step_rules.proofs.open_step.rivals.live_rival.Goals as goal

pub returns : goal.returns
returns c = c.first_rival.ensures ∙ ap (find (rival_at c.args.tree.now.nodes (open_of c.args.step.now))) c.live.ensures ∙ sym (first-rival c.args.tree.now.nodes (open_of c.args.step.now))
