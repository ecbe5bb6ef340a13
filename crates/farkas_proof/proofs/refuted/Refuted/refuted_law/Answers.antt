use Rattle.lin_atoms.specs.Denial.{lit_fits}
use Rattle.farkas_proof.proofs.RoomLemmas.{legal_without}
use Rattle.farkas_proof.proofs.refuted.Refuted.refuted_law.Goals as goal

pub returns-clause-legal : goal.returns-clause-legal
returns-clause-legal c = legal_without lit_fits c.args.self.now.form c.args.self.now.proof c.args.self.now.narrow
