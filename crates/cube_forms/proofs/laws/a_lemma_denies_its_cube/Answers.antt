use Rattle.cube_forms.proofs.TruthLemmas.{truth-lemma_at}
use Rattle.cube_forms.proofs.laws.a_lemma_denies_its_cube.Goals as goal

pub returns : goal.returns
returns c = truth-lemma_at
