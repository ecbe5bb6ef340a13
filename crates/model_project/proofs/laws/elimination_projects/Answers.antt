use Rattle.model_project.proofs.EliminationLemmas.{projection_is}
use Rattle.model_project.proofs.laws.elimination_projects.Goals as goal

pub returns : goal.returns
returns c = projection_is
