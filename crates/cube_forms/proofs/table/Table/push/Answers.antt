use Rattle.std.proofs.Common.{arith, ap, length}
use Rattle.cube_forms.proofs.BlockLemmas.{length-joined}
use Rattle.cube_forms.proofs.table.Table.push.Goals as goal

pub overflow_add-self : goal.overflow_add-self
overflow_add-self g c =
    let count = length-joined c.self.inside.count c.self.inside.blocks.items c.self.invariant in
    let same = ap (λ xs. length xs) c.self.view_is in
    omega (arith, c.requires)
