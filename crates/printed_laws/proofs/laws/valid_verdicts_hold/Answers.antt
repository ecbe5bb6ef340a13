use Rattle.printed_laws.proofs.ValidLemmas.{valid_holds}
use Rattle.printed_laws.proofs.laws.valid_verdicts_hold.Goals as goal

pub returns : goal.returns
returns c = valid_holds c.texts_of_solutions_spell_solutions.ensures
