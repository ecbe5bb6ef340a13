use Rattle.book_laws.proofs.StaleLemmas.{stale}
use Rattle.book_laws.proofs.laws.stale_steps_are_refused.Goals as goal

pub returns : goal.returns
returns c = stale
