use Rattle.std.proofs.Common.{sym, ap, ◌∙◌, length}
use Rattle.cube_forms.proofs.BlockLemmas.{length-joined}
use Rattle.cube_forms.proofs.table.Table.count.Goals as goal

pub returns : goal.returns
returns g c = sym (length-joined c.self.inside.count c.self.inside.blocks.items c.self.invariant) ∙ ap (λ xs. length xs) c.self.view_is
