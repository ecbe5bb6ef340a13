use Rattle.std.proofs.Common.{sym, ◌∙◌}
use Rattle.clause_readings.proofs.CertificateLemmas.{derivation_passes, solution_passes}
use Rattle.clause_readings.proofs.SystemLemmas.{same_system}
use Rattle.clause_readings.proofs.TwinLemmas.{all_twins}
use Rattle.clause_readings.proofs.laws.numbering_is_free.Goals as goal

pub returns : goal.returns
returns c = record {
  system = λ commands checked other laid x y stops. same_system commands checked other laid x y stops;
  derivations = λ commands script other steps laid x y h. derivation_passes script other (all_twins script other commands x y laid) steps h;
  solutions = λ commands script other definitions laid x y h. solution_passes script other definitions (x.preds ∙ sym y.preds) (all_twins script other commands x y laid) h;
}
