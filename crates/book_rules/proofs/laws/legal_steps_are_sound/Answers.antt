use Rattle.book_rules.specs.Instances.{instances}
use Rattle.book_rules.proofs.SoundLemmas.{sound-after, sound-opening}
use Rattle.book_rules.proofs.laws.legal_steps_are_sound.Goals as goal

pub returns-clause-step : goal.returns-clause-step
returns-clause-step c = λ sys s step sound legal. sound-after sys s step sound legal.carries legal.unbroken

pub returns-clause-first : goal.returns-clause-first
returns-clause-first c = λ sys units. sound-opening (instances sys) units
