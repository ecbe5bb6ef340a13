use Rattle.std.specs.Int.{w64}
use Rattle.lin_atoms.proofs.DivisionLemmas.{exact-division}
use Rattle.lin_atoms.proofs.accumulator.exact.Goals as goal

pub returns : goal.returns
returns c = exact-division w64 c.args.n c.args.divisor c.ranges.n c.ranges.divisor c.requires.positive c.requires.divides
