use Rattle.answer_text.proofs.LawLemmas.{alone_law}
use Rattle.answer_text.proofs.StepLemmas.{read_back}
use Rattle.answer_text.proofs.laws.printed_derivations_are_read_back.Goals as goal

pub returns : goal.returns
returns c = record {
  spelled = λ preds lines text names printed. read_back preds names lines text printed;
  alone = λ preds lines text answer names printed spells. alone_law preds text lines answer (read_back preds names lines text printed) spells;
}
