use Rattle.std.proofs.Common.{◌+◌, ◌≤◌, length, drop, arith}
use Rattle.cube_forms.specs.Cubes.{lit_is_short}
use Rattle.cube_rules.proofs.GatherLemmas.{all-get, rest-end, rest-is, roomy-end, roomy-on}
use Rattle.cube_rules.proofs.literals.push_roomy.Goals as goal

pub push_placed-requires : goal.push_placed-requires
push_placed-requires c = all-get lit_is_short c.args.cube.now c.loop-lit.lit-index c.lit-item.result c.loop-lit-test.true c.lit-item.is c.requires

pub loop-lit-preserved : goal.loop-lit-preserved
loop-lit-preserved c =
    let cube = c.args.cube.now in
    let i = c.loop-lit.lit-index in
    let lit = c.lit-item.result in
    roomy-on c.args.args.now (drop i cube) lit (drop (i + 1) cube) c.loop-lit.lits.items _ _ (rest-is cube i lit c.loop-lit-test.true c.lit-item.is) c.in_ok-push_placed.ensures c.loop-lit.invariant

pub returns : goal.returns
returns c =
    let cube = c.args.cube.now in
    let i = c.loop-lit.lit-index in
    let over = c.loop-lit-test.false in
    let past : length cube ≤ i = omega arith in
    roomy-end c.args.args.now (drop i cube) c.loop-lit.lits.items _ (rest-end cube i past) c.loop-lit.invariant
