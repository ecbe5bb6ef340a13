use Rattle.std.proofs.Common.{ap}
use Rattle.lin_atoms.specs.Denial.{lit_fits}
use Rattle.refutation_trees.specs.Refutation.{is_sound}
use Rattle.farkas_proof.proofs.RoomLemmas.{legal_without}
use Rattle.farkas_proof.proofs.TreeLemmas.{no_point}
use Rattle.farkas_proof.proofs.checker.check_owned.Goals as goal

pub invariant_of-result : goal.invariant_of-result
invariant_of-result c = record {
  narrow = ap is_sound c.in-Ok.ensures;
  no_point = λ point. no_point lit_fits c.args.form c.args.proof (ap is_sound c.in-Ok.ensures) point;
}

pub returns-in-Ok-clause-legal : goal.returns-in-Ok-clause-legal
returns-in-Ok-clause-legal c = legal_without lit_fits c.args.form c.args.proof (ap is_sound c.in-Ok.ensures)
