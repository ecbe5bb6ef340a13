use Rattle.obligation_turn.proofs.FoundLemmas.{lifts-lent, there-lent}
use Rattle.obligation_turn.proofs.root_steps.lift.Goals as goal

pub level_of-from-requires : goal.level_of-from-requires
level_of-from-requires c = there-lent _ c.args.lent.now c.args.id c.lent.view_is c.requires.there

pub returns : goal.returns
returns c = lifts-lent _ c.args.lent.now c.args.id c.level_of-from.result c.args.proofs c.lent.view_is c.requires.goes_on c.requires.there c.requires.below c.requires.proofs c.level_of-from.ensures
