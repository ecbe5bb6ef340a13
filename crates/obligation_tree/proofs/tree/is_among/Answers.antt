use Rattle.std.proofs.Common.{Ok, Err, sym}
use Rattle.std.proofs.lemmas.List.Sorted.{searched}
use Rattle.obligation_tree.proofs.LeafLemmas.{among-found, among-missed, ascends}
use Rattle.obligation_tree.proofs.tree.is_among.Goals as goal

pub returns-in-Ok : goal.returns-in-Ok
returns-in-Ok c =
    let xs = c.args.numbers.now in
    let it = searched xs c.args.number (Ok c.in-Ok.field-0) c.in-Ok.ensures.position (ascends xs c.requires) in
    sym (among-found xs c.args.number c.in-Ok.field-0 it.0 it.1)

pub returns-in-Err : goal.returns-in-Err
returns-in-Err c =
    let xs = c.args.numbers.now in
    let it = searched xs c.args.number (Err c.in-Err.field-0) c.in-Err.ensures.position (ascends xs c.requires) in
    sym (among-missed xs c.args.number c.in-Err.field-0 it.1 it.2)
