use Rattle.term_check.proofs.LightLemmas.{reading_light}
use Rattle.term_check.proofs.laws.trees_are_light.Goals as goal

pub returns : goal.returns
returns c = λ text trees stop h i tree is. reading_light text trees stop h i tree is
