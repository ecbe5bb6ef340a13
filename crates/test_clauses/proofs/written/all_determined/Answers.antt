use Rattle.test_clauses.proofs.SampleLemmas.{rows_are_places}
use Rattle.test_clauses.proofs.written.all_determined.Goals as goal

pub place_forms-put-requires-clause-places : goal.place_forms-put-requires-clause-places
place_forms-put-requires-clause-places g c =
    rows_are_places c.args.given.now.constants c.args.given.now.names.own.items c.args.given.now.names.auxiliary c.args.given.now.terms.nodes c.args.other c.requires.given
    c.judge.ensures.room c.judge-2.ensures.room
