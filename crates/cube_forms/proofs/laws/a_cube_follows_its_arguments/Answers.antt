use Rattle.cube_forms.proofs.TruthLemmas.{truth-cube_at}
use Rattle.cube_forms.proofs.laws.a_cube_follows_its_arguments.Goals as goal

pub returns : goal.returns
returns c = truth-cube_at
