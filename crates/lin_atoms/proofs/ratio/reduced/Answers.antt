use Rattle.std.proofs.Common.{FitsSigned}
use Rattle.std.specs.Prelude.{pos}
use Rattle.std.specs.Int.{w128}
use Rattle.lin_atoms.proofs.DivisionLemmas.{above-none, exact-division}
use Rattle.lin_atoms.proofs.ratio.reduced.Goals as goal

pub returns-clause-num : goal.returns-clause-num
returns-clause-num c =
    let d_fits : FitsSigned w128 (pos c.args.divisor) = record { sfits = c.requires.divisor.1 } in
    exact-division w128 c.args.num (pos c.args.divisor) c.ranges.num d_fits (above-none c.args.divisor c.requires.divisor.0) c.requires.num

pub returns-clause-den : goal.returns-clause-den
returns-clause-den c =
    let d_fits : FitsSigned w128 (pos c.args.divisor) = record { sfits = c.requires.divisor.1 } in
    exact-division w128 c.args.den (pos c.args.divisor) c.ranges.den d_fits (above-none c.args.divisor c.requires.divisor.0) c.requires.den
