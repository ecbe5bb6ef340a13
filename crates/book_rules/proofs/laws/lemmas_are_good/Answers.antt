use Rattle.book_rules.specs.Instances.{instances}
use Rattle.book_rules.specs.Legal.{replay}
use Rattle.book_rules.proofs.FrameLemmas.{good}
use Rattle.book_rules.proofs.SoundLemmas.{sound-replay}
use Rattle.book_rules.proofs.laws.lemmas_are_good.Goals as goal

pub returns-clause-good : goal.returns-clause-good
returns-clause-good c = λ sys s steps sound legal. good (instances sys) (replay sys s steps) (sound-replay sys s steps sound legal)

pub returns-clause-shown : goal.returns-clause-shown
returns-clause-shown c = λ sys s steps sound legal. (sound-replay sys s steps sound legal).shown

pub returns-clause-refuted : goal.returns-clause-refuted
returns-clause-refuted c = λ sys s steps sound legal some. (sound-replay sys s steps sound legal).refuted some
