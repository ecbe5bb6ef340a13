use Rattle.answer_laws.proofs.DeclaredLemmas.{names_law}
use Rattle.answer_laws.proofs.laws.scripts_have_names.Goals as goal

pub returns : goal.returns
returns c = names_law
