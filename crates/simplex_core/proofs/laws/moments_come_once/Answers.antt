use Rattle.simplex_core.proofs.OnceLemmas.{once}
use Rattle.simplex_core.proofs.laws.moments_come_once.Goals as goal

pub returns : goal.returns
returns c = once
