use Rattle.interpretations.proofs.AnswerLemmas.{read-back}
use Rattle.interpretations.proofs.answers.definitions_are_read_back.Goals as goal

pub returns : goal.returns
returns c = read-back
