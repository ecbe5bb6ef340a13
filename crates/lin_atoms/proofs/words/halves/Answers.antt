use Rattle.std.proofs.Common.{rules, FitsSigned}
use Rattle.std.specs.Int.{w64}
use Rattle.std.proofs.lemmas.Int.{to_z-of_z}
use Rattle.lin_atoms.proofs.DivisionLemmas.{quotient-rest, rest-natural}
use Rattle.lin_atoms.proofs.words.halves.Goals as goal

pub returns-clause-value : goal.returns-clause-value
returns-clause-value c =
    let n_fits : FitsSigned w64 c.args.n = c.ranges.n in
    let d_fits : FitsSigned w64 c.args.divisor = c.ranges.divisor in
    let q_fits : FitsSigned w64 c.div_euclid.result = search rules in
    let r_fits : FitsSigned w64 c.rem_euclid.result = search rules in
    let q = simp to_z-of_z at c.div_euclid.ensures in
    let r = simp to_z-of_z at c.rem_euclid.ensures.value in
    simp to_z-of_z (rw (q, r, ← rest-natural c.args.n c.args.divisor) (quotient-rest c.args.n c.args.divisor c.requires))
