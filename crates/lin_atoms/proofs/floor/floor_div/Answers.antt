use Rattle.std.proofs.Common.{arith, rules, FitsSigned}
use Rattle.std.specs.Int.{w128}
use Rattle.std.proofs.lemmas.Int.{ints, to_z-of_z}
use Rattle.lin_atoms.proofs.DivisionLemmas.{quotient-rest, rest-natural, quotient-greatest}
use Rattle.lin_atoms.proofs.floor.floor_div.Goals as goal

pub returns-clause-below : goal.returns-clause-below
returns-clause-below c =
    let a_fits : FitsSigned w128 c.args.a = c.ranges.a in
    let b_fits : FitsSigned w128 c.args.b = c.ranges.b in
    let q_fits : FitsSigned w128 c.div_euclid.result = search rules in
    let told = simp to_z-of_z at c.div_euclid.ensures in
    simp to_z-of_z (rw told (omega (arith, ints, quotient-rest c.args.a c.args.b c.requires, rest-natural c.args.a c.args.b)))

pub returns-clause-greatest : goal.returns-clause-greatest
returns-clause-greatest c n le =
    let a_fits : FitsSigned w128 c.args.a = c.ranges.a in
    let b_fits : FitsSigned w128 c.args.b = c.ranges.b in
    let q_fits : FitsSigned w128 c.div_euclid.result = search rules in
    let told = simp to_z-of_z at c.div_euclid.ensures in
    simp to_z-of_z (rw told (quotient-greatest c.args.a c.args.b n c.requires le))
