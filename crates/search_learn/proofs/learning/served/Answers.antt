use Rattle.std.proofs.Common.{subst, sym}
use Rattle.lemma_general.specs.Generals.{IsLearnt}
use Rattle.search_learn.proofs.learning.served.Goals as goal

pub ready-requires-clause-trying : goal.ready-requires-clause-trying
ready-requires-clause-trying c = c.new-tries.ensures.trying c.args.lent.now c.requires.learnt

pub returns-then-shown : goal.returns-then-shown
returns-then-shown c = subst (IsLearnt c.args.lent.now) (sym c.into_part-part.ensures) c.in_ok-shown.ensures.learnt

pub general-requires-clause-learnt : goal.general-requires-clause-learnt
general-requires-clause-learnt c = subst (IsLearnt c.args.lent.now) (sym c.into_part-part.ensures) c.in_ok-shown.ensures.learnt

pub returns : goal.returns
returns c = c.in_ok-general.ensures
