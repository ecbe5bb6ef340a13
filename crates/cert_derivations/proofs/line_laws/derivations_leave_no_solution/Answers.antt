use Rattle.cert_derivations.proofs.DeriveLemmas.{no_solution}
use Rattle.cert_derivations.proofs.line_laws.derivations_leave_no_solution.Goals as goal

pub returns : goal.returns
returns c = no_solution
