use Rattle.interpretations.proofs.AnswerLemmas.{answers, printable}
use Rattle.interpretations.proofs.answers.definitions_are_answers.Goals as goal

pub returns : goal.returns
returns c = record { printable = printable; spelled = answers }
