use Rattle.obligation_turn.proofs.FoundLemmas.{there-lent}
use Rattle.obligation_turn.proofs.MemoLemmas.{hit-lent, seen-lent}
use Rattle.obligation_turn.proofs.finding.is_hit_of.Goals as goal

pub pred_of-pred-requires : goal.pred_of-pred-requires
pred_of-pred-requires c = there-lent _ c.args.lent.now c.args.id c.lent.view_is c.requires.there

pub level_of-level-requires : goal.level_of-level-requires
level_of-level-requires c = there-lent _ c.args.lent.now c.args.id c.lent.view_is c.requires.there

pub lemma-lemma-requires : goal.lemma-lemma-requires
lemma-lemma-requires c = there-lent _ c.args.lent.now c.args.id c.lent.view_is c.requires.there

pub is_hit-requires : goal.is_hit-requires
is_hit-requires c = record { seen = seen-lent _ c.args.lent.now c.args.seen.now c.lent.view_is c.requires.seen }

pub returns : goal.returns
returns c =
    hit-lent _ c.args.lent.now c.args.id c.pred_of-pred.result c.level_of-level.result c.lemma-lemma.result.now c.args.seen.now c.in_ok-hit.hit c.lent.view_is c.pred_of-pred.ensures.pred c.lemma-lemma.ensures c.level_of-level.ensures c.in_ok-hit.ensures
