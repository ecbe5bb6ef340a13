use Rattle.std.proofs.Common.{rules, ap, ◌∙◌, set, []}
use Rattle.cube_forms.proofs.BlockLemmas.{found, written}
use Rattle.cube_forms.proofs.table.Table.set.Goals as goal

pub index_mut-requires : goal.index_mut-requires
index_mut-requires g c =
    let at = found c.self.inside.count c.self.inside.blocks.items c.args.self.now c.args.at [] c.self.invariant c.self.view_is c.requires in
    let block = at.block in
    search rules

pub set_in-requires : goal.set_in-requires
set_in-requires g c =
    let at = found c.self.inside.count c.self.inside.blocks.items c.args.self.now c.args.at c.index_mut.result.now c.self.invariant c.self.view_is c.requires in
    rw c.index_mut.ensures.value at.place

pub invariant_of-self-2 : goal.invariant_of-self-2
invariant_of-self-2 g c =
    let it = written c.self.inside.count c.self.inside.blocks.items c.args.self.now c.args.at c.index_mut.result.now c.args.item c.self.invariant c.self.view_is c.requires in
    rw (c.in_ok-set_in.ensures.ok, c.index_mut.ensures.value) it.filled

pub returns-clause-ok : goal.returns-clause-ok
returns-clause-ok g c =
    let it = written c.self.inside.count c.self.inside.blocks.items c.args.self.now c.args.at c.index_mut.result.now c.args.item c.self.invariant c.self.view_is c.requires in
    rw (c.in_ok-set_in.ensures.ok, c.index_mut.ensures.value) it.items ∙ ap (λ xs. set xs c.args.at c.args.item) c.self.view_is
