use Rattle.std.proofs.Common.{length, refl}
use Rattle.std.proofs.lemmas.Option.{slice_get_read}
use Rattle.clause_index.proofs.PlaceLemmas.{have-next}
use Rattle.clause_index.proofs.places.all_places.Goals as goal

pub loop-clause-preserved : goal.loop-clause-preserved
loop-clause-preserved c =
    let clauses = c.args.clauses.now in
    let n = c.loop-clause.clause-index in
    have-next clauses n c.clause-item.result c.loop-clause.made c.push.new.self c.in_ok-places_of.field-0
    (slice_get_read clauses (length clauses) n c.clause-item.result refl c.loop-clause-test.true c.clause-item.is) c.in_ok-push.ensures.ok c.in_ok-places_of.ensures c.loop-clause.invariant
