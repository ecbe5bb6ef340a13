use Rattle.chc_core.proofs.TokenLemmas.{carries}
use Rattle.chc_core.proofs.laws.tokens_carry_their_facts.Goals as goal

pub returns : goal.returns
returns c = carries
