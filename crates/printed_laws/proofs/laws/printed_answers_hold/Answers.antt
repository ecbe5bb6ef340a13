use Rattle.printed_laws.proofs.PrintedLemmas.{printed}
use Rattle.printed_laws.proofs.laws.printed_answers_hold.Goals as goal

pub returns : goal.returns
returns c =
    let models = c.printed_models_are_solutions.ensures in
    let lines = c.unsat_answers_are_read_back.ensures in
    printed models.accepted models.same models.solution lines.spelled lines.alone c.no_answer_is_bad.ensures
