use Rattle.clause_readings.proofs.TextLemmas.{same_solutions}
use Rattle.clause_readings.proofs.laws.texts_have_the_same_solutions.Goals as goal

pub returns : goal.returns
returns c = record {
  solution = λ text checked other definitions x y h. same_solutions text checked other x y definitions h;
}
