use Rattle.std.proofs.Common.{FitsSigned}
use Rattle.std.specs.Int.{w64}
use Rattle.std.proofs.lemmas.Int.{to_z-of_z}
use Rattle.farkas_proof.proofs.rules.derived.Goals as goal

pub returns : goal.returns
returns c = let d_fits : FitsSigned w64 c.args.divisor = c.ranges.divisor in simp to_z-of_z at c.round.ensures
