use Rattle.std.proofs.Common.{◌++◌, ◌∷◌, [], ap, ◌∙◌}
use Rattle.cube_forms.proofs.block.Block.one.Goals as goal

pub returns : goal.returns
returns g c = c.in_ok-push.ensures.items ∙ ap (λ xs. xs ++ c.args.item ∷ []) c.new-items.ensures.items
