use Rattle.obligation_turn.proofs.FoundLemmas.{there-lent}
use Rattle.search_strategy.proofs.lifts.is_below.Goals as goal

pub level_of-level-requires : goal.level_of-level-requires
level_of-level-requires c = there-lent _ c.args.lent.now c.args.id c.lent.view_is c.requires
