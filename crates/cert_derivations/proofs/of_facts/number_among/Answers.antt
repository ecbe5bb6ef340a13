use Rattle.std.proofs.Common.{Ok, Err, arith}
use Rattle.std.proofs.lemmas.List.Sorted.{searched}
use Rattle.cert_derivations.proofs.PlaceLemmas.{ascends, place-found, place-missed}
use Rattle.cert_derivations.proofs.of_facts.number_among.Goals as goal

pub returns-in-Ok : goal.returns-in-Ok
returns-in-Ok c =
    let xs = c.args.among.now in
    let it = searched xs c.args.fact (Ok c.in-Ok.place) c.in-Ok.ensures.position (ascends xs c.requires) in
    let is = place-found xs c.args.fact c.in-Ok.place c.requires it.0 it.1 in
    omega (arith, is)

pub returns-in-Err : goal.returns-in-Err
returns-in-Err c =
    let xs = c.args.among.now in
    let it = searched xs c.args.fact (Err c.in-Err.field-0) c.in-Err.ensures.position (ascends xs c.requires) in
    let is = place-missed xs c.args.fact c.in-Err.field-0 it.1 it.2 in
    omega (arith, is)
