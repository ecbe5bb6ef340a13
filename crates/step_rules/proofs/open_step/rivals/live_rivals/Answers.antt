use Rattle.std.proofs.Common.{◌∙◌, ap, sym, length, List, ℕ, filter}
use Rattle.step_rules.specs.Taken.{open_of}
use Rattle.step_rules.specs.machinery.Walks.{rival_at}
use Rattle.step_rules.proofs.LiveLemmas.{count-rivals}
use Rattle.step_rules.proofs.open_step.rivals.live_rivals.Goals as goal

pub returns : goal.returns
returns c = c.rivals.ensures ∙ ap (λ (ns : List ℕ). length (filter (rival_at c.args.tree.now.nodes (open_of c.args.step.now)) ns)) c.live.ensures ∙ sym (count-rivals c.args.tree.now.nodes (open_of c.args.step.now))
