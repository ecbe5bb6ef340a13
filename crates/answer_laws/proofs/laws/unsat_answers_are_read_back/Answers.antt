use Rattle.answer_text.proofs.Public.{alone_law, read_back}
use Rattle.answer_laws.proofs.DeclaredLemmas.{names_law}
use Rattle.answer_laws.proofs.laws.unsat_answers_are_read_back.Goals as goal

pub returns : goal.returns
returns c = record {
  spelled = λ text commands script lines printed is_script of printed_is. read_back script.preds (names_law text commands script is_script of) lines printed printed_is;
  alone = λ text commands script lines printed answer is_script of printed_is spells.
      alone_law script.preds printed lines answer (read_back script.preds (names_law text commands script is_script of) lines printed printed_is) spells;
}
