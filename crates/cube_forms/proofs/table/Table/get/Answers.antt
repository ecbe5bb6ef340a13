use Rattle.std.proofs.Common.{rules, sym, [], ◌∙◌, ap, ◌%◌, get_or}
use Rattle.cube_forms.proofs.BlockLemmas.{found}
use Rattle.cube_forms.proofs.table.Table.get.Goals as goal

pub index-requires : goal.index-requires
index-requires g c =
    let at = found c.self.inside.count c.self.inside.blocks.items c.args.self.now c.args.at [] c.self.invariant c.self.view_is c.requires in
    let block = at.block in
    search rules

pub get-requires-2 : goal.get-requires-2
get-requires-2 g c =
    let at = found c.self.inside.count c.self.inside.blocks.items c.args.self.now c.args.at c.index.result.now c.self.invariant c.self.view_is c.requires in
    rw (c.get.ensures, c.index.ensures) at.place

pub returns : goal.returns
returns g c =
    let at = found c.self.inside.count c.self.inside.blocks.items c.args.self.now c.args.at c.index.result.now c.self.invariant c.self.view_is c.requires in
    let d = c.get-2.result.now in
    c.get-2.ensures ∙ ap (λ b. get_or b (c.args.at % 64) d) (c.get.ensures ∙ c.index.ensures) ∙ sym (at.item d) ∙ ap (λ xs. get_or xs c.args.at d) c.self.view_is
