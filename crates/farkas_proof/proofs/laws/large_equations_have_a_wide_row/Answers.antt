use Rattle.farkas_proof.proofs.WideRowLemmas.{large-given-up}
use Rattle.farkas_proof.proofs.laws.large_equations_have_a_wide_row.Goals as goal

pub returns : goal.returns
returns c = large-given-up
