use Rattle.clause_readings.proofs.TextLemmas.{same_derivable, same_derivations}
use Rattle.clause_readings.proofs.laws.texts_have_the_same_derivations.Goals as goal

pub returns : goal.returns
returns c = record {
  steps = λ text checked other steps x y h. same_derivations text checked other x y steps h;
  derivable = λ text checked other h conclusion x y is. same_derivable text checked other x y h conclusion is;
}
