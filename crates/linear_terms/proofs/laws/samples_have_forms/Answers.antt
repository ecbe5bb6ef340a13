use Rattle.std.proofs.Common.{refl}
use Rattle.linear_terms.proofs.laws.samples_have_forms.Goals as goal

pub returns : goal.returns
returns c = record { truths = refl; places = refl }
