use Rattle.gen_laws.proofs.LayLemmas.{spells}
use Rattle.gen_laws.proofs.laws.generated_texts_spell_the_scripts.Goals as goal

pub returns : goal.returns
returns c = spells
