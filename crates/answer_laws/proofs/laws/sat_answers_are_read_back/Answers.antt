use Rattle.answer_text.proofs.Public.{read_as}
use Rattle.answer_laws.proofs.DeclaredLemmas.{names_law}
use Rattle.answer_laws.proofs.laws.sat_answers_are_read_back.Goals as goal

pub returns : goal.returns
returns c = λ text commands script definitions printed is_script of stored printed_is. read_as script.preds definitions printed (names_law text commands script is_script of) stored printed_is
