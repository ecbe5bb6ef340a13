use Rattle.chc_checker.proofs.ExactLemmas.{exact_valid, exact_wrong}
use Rattle.chc_checker.proofs.laws.verdicts_on_derivations_are_exact.Goals as goal

pub returns : goal.returns
returns c = record { valid = exact_valid; wrong = exact_wrong }
