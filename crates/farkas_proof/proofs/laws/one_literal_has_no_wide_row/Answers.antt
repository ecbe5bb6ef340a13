use Rattle.farkas_proof.proofs.LoneLemmas.{lone-narrow}
use Rattle.farkas_proof.proofs.laws.one_literal_has_no_wide_row.Goals as goal

pub returns : goal.returns
returns c = lone-narrow
