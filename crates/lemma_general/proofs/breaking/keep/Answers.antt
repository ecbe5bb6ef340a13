use Rattle.std.proofs.Common.{◌-◌}
use Rattle.lemma_general.proofs.MetLemmas.{hit-kept, hit-there}
use Rattle.lemma_general.proofs.breaking.keep.Goals as goal

pub clause-clause-requires : goal.clause-clause-requires
clause-clause-requires c = hit-there _ c.args.lent.now (c.args.part.now).pred ((c.args.part.now).level - 1) c.args.cube.now c.args.seen c.clause.result c.lent.view_is c.requires.hit c.clause.ensures

pub returns : goal.returns
returns c =
    hit-kept _ c.args.lent.now (c.args.part.now).pred ((c.args.part.now).level - 1) c.clause.result c.args.cube.now c.args.seen c.clause-clause.result.now c.in-Some.atom c.point.result.now c.in_ok-tuple-in-Some.tuple c.as_slice.result.now c.args.met.now _ c.lent.view_is
    c.requires.hit c.clause.ensures c.clause-clause.ensures.is c.clause-clause.ensures.legal c.in-Some.is c.point.ensures c.as_slice.ensures c.in_ok-tuple-in-Some.ensures c.requires.met c.in_ok-push-in-Some.ensures.ok
