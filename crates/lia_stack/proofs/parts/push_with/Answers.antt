use Rattle.std.proofs.Common.{[], ◌∷◌, ◌++◌, ap, ◌∙◌}
use Rattle.lia_stack.specs.declared.waiting.Open.{Open}
use Rattle.lia_stack.proofs.parts.push_with.Goals as goal

pub returns : goal.returns
returns c = c.in_ok-push.ensures.items ∙ ap (λ (o : Open). c.args.stack.now.items ++ o ∷ []) c.in_ok-add.ensures
