use Rattle.book_rules.specs.Instances.{instances}
use Rattle.book_rules.specs.Legal.{replay}
use Rattle.book_rules.proofs.FrameLemmas.{no_false}
use Rattle.book_rules.proofs.SoundLemmas.{sound-replay}
use Rattle.book_rules.proofs.laws.facts_are_derivable.Goals as goal

pub returns-clause-facts : goal.returns-clause-facts
returns-clause-facts c = λ sys s steps sound legal. (sound-replay sys s steps sound legal).derived

pub returns-clause-no_false : goal.returns-clause-no_false
returns-clause-no_false c = λ sys s steps sound legal h le d. no_false (instances sys) (replay sys s steps) (sound-replay sys s steps sound legal) h le d
