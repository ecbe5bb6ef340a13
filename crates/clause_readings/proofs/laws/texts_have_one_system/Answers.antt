use Rattle.clause_readings.proofs.TextLemmas.{one_system}
use Rattle.clause_readings.proofs.laws.texts_have_one_system.Goals as goal

pub returns : goal.returns
returns c = record {
  system = λ text checked other x y. one_system text checked other x y;
}
