use Rattle.std.proofs.Common.{rules, arith, ◌≡◌, [], ◌<◌, ◌*◌, ◌/◌, ◌%◌}
use Rattle.cube_forms.proofs.BlockLemmas.{appended, added_after}
use Rattle.cube_forms.proofs.table.add.Goals as goal

pub index_mut-requires : goal.index_mut-requires
index_mut-requires g c =
    let some : 0 < c.args.count % 64 = omega (arith, c.if-count-eq0.false) in
    let it = appended c.args.count c.args.blocks.now.items [] c.args.item c.requires some in
    let block = it.block in
    search rules

pub returns-in_ok-push-clause-items : goal.returns-in_ok-push-clause-items
returns-in_ok-push-clause-items g c =
    let none : c.args.count ≡ 64 * (c.args.count / 64) = omega (arith, c.if-count-eq0.true) in
    let it = added_after c.args.count c.args.blocks.now.items (c.args.count / 64) c.args.item c.requires none in
    rw (c.in_ok-push.ensures.items, c.in_ok-new.ensures, c.in_ok-block.ensures) it.items

pub returns-in_ok-push-clause-filled : goal.returns-in_ok-push-clause-filled
returns-in_ok-push-clause-filled g c =
    let none : c.args.count ≡ 64 * (c.args.count / 64) = omega (arith, c.if-count-eq0.true) in
    let it = added_after c.args.count c.args.blocks.now.items (c.args.count / 64) c.args.item c.requires none in
    rw (c.in_ok-push.ensures.items, c.in_ok-new.ensures, c.in_ok-block.ensures) it.filled

pub returns-in_ok-push_to-clause-items : goal.returns-in_ok-push_to-clause-items
returns-in_ok-push_to-clause-items g c =
    let some : 0 < c.args.count % 64 = omega (arith, c.if-count-eq0.false) in
    let it = appended c.args.count c.args.blocks.now.items c.index_mut.result.now c.args.item c.requires some in
    rw (c.in_ok-push_to.ensures.ok, c.index_mut.ensures.value) it.items

pub returns-in_ok-push_to-clause-filled : goal.returns-in_ok-push_to-clause-filled
returns-in_ok-push_to-clause-filled g c =
    let some : 0 < c.args.count % 64 = omega (arith, c.if-count-eq0.false) in
    let it = appended c.args.count c.args.blocks.now.items c.index_mut.result.now c.args.item c.requires some in
    rw (c.in_ok-push_to.ensures.ok, c.index_mut.ensures.value) it.filled
