use Rattle.std.proofs.Common.{ℕ, subst}
use Rattle.lemma_general.specs.machinery.Passes.{IsAnswerOf}
use Rattle.lemma_general.proofs.showing.ask_below.Goals as goal

pub returns : goal.returns
returns c = subst (λ (k : ℕ). IsAnswerOf c.args.lent.now (c.args.part.now).pred c.args.cube.now k c.args.nodes c.in_ok-found.found) c.saturating_sub-k.ensures c.in_ok-found.ensures
