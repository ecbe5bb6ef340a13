use Rattle.std.proofs.Common.{map, ap, ◌∙◌}
use Rattle.std.proofs.lemmas.List.{take_all}
use Rattle.book_rules.specs.Areas.{lit_in_places}
use Rattle.cube_rules.proofs.PlacedLemmas.{apart-cube, placed-more, wide-cube}
use Rattle.cube_rules.proofs.places.all_in_places.Goals as goal

pub returns-in-None-clause-made : goal.returns-in-None-clause-made
returns-in-None-clause-made c =
    let made = rw c.in-None.is at c.in_ok-lit.ensures.made in
    wide-cube c.args.args.now c.args.cube.now c.loop-lit.lit-index c.lit-item.result c.loop-lit-test.true c.lit-item.is made

pub returns-in-None-clause-apart : goal.returns-in-None-clause-apart
returns-in-None-clause-apart c =
    let apart = rw c.in-None.is at c.in_ok-lit.ensures.apart in
    apart-cube c.args.args.now c.args.cube.now c.loop-lit.lit-index c.lit-item.result c.loop-lit-test.true c.lit-item.is apart

pub loop-lit-preserved : goal.loop-lit-preserved
loop-lit-preserved c =
    let made = rw c.in-Some.is at c.in_ok-lit.ensures.made in
    placed-more c.args.args.now c.args.cube.now c.loop-lit.lit-index c.lit-item.result c.in-Some.lit c.loop-lit.lits.items _ c.loop-lit-test.true c.lit-item.is made c.loop-lit.invariant c.in_ok-push-in-Some.ensures.items

pub returns-clause-made : goal.returns-clause-made
returns-clause-made c = c.loop-lit.invariant ∙ ap (map (lit_in_places c.args.args.now)) (take_all c.loop-lit.lit-index c.args.cube.now c.loop-lit-test.false)
