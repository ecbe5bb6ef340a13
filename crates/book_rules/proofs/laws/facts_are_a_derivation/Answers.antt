use Rattle.book_rules.proofs.RecordLemmas.{recorded-replay}
use Rattle.book_rules.proofs.laws.facts_are_a_derivation.Goals as goal

pub returns : goal.returns
returns c = recorded-replay
