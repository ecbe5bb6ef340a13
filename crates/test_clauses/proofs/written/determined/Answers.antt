use Rattle.test_clauses.proofs.SampleLemmas.{rows_are_fresh, rows_are_shaped}
use Rattle.test_clauses.proofs.written.determined.Goals as goal

pub place_form-made-requires-clause-fresh : goal.place_form-made-requires-clause-fresh
place_form-made-requires-clause-fresh g c =
    let given = c.requires.given in
    rows_are_fresh c.args.given.now.terms.nodes c.args.given.now.names.own.items c.args.given.now.names.auxiliary c.args.v c.args.id given.terms given.own given.auxiliary
    (c.may_stand.ensures.low c.if-not-may_stand.false) (c.may_stand.ensures.same c.if-not-may_stand.false)

pub place_form-made-requires-clause-shaped : goal.place_form-made-requires-clause-shaped
place_form-made-requires-clause-shaped g c = rows_are_shaped c.args.given.now.terms.nodes c.args.id c.requires.given.terms c.judge.ensures.room.there
